use mathlib.Core.Path.{sym, ◌∙◌}
use Rattle.scan.proofs.Laws.{holds-any}
use Rattle.scan.proofs.holds_byte.Goals as goal

pub returns : goal.returns
returns c = c.contains.ensures.value ∙ sym (holds-any c.args.b c.args.s.now)
