use mathlib.Core.Path.{sym, ◌∙◌}
use Rattle.scan.proofs.Laws.{same-pointwise}
use Rattle.scan.proofs.same_bytes.Goals as goal

pub returns : goal.returns
returns c = c.eq.ensures ∙ sym (same-pointwise c.args.a.now c.args.b.now)
