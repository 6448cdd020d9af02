use mathlib.Core.Path.{◌∙◌}
use Rattle.front.proofs.Far.{same-got, slash-ends}
use Rattle.front.proofs.slash_before.Goals as goal

pub returns : goal.returns
returns c = c.eq.ensures ∙ same-got c.last.result _ ∙ rw c.last.ensures.value (slash-ends _)
