use mathlib.Core.Path.{◌∙◌}
use Rattle.text.proofs.Refusals.{seen-refused}
use Rattle.heads.specs.Heads.{head_at}
use Rattle.heads.specs.Places.{head_from}
use Rattle.heads.proofs.head_at.Goals as goal

pub returns-then-is_not_taken : goal.returns-then-is_not_taken
unfolding head_at
returns-then-is_not_taken c = rw (← c.is_not_taken.ensures, c.if-is_not_taken.true, c.standing_at.ensures, head_at)

pub returns-in_err-t : goal.returns-in_err-t
unfolding head_at
returns-in_err-t c = seen-refused _ _ c.from_residual.ensures.1 ∙ rw (← c.is_not_taken.ensures, c.if-is_not_taken.false, ← c.in_err-t.ensures, head_at)

pub returns : goal.returns
unfolding head_at head_from
returns c = c.head_from.ensures ∙ rw (← c.is_not_taken.ensures, c.if-is_not_taken.false, ← c.in_ok-t.ensures, head_at)
