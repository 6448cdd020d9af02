use mathlib.Core.Path.{ap, ◌∙◌}
use native.Mathlib.Omega.{arith}
use Rattle.scan.proofs.Laws.{span_rest}
use Rattle.class.specs.Class.{ranges}
use Rattle.class.proofs.Laws.{members-behind}
use Rattle.class.proofs.members.Goals as goal

pub returns-in-94 : goal.returns-in-94
returns-in-94 c = ap (ranges 0) (span_rest c.args.class.now 1) ∙ members-behind c.args.class.now (omega arith) (omega arith)
