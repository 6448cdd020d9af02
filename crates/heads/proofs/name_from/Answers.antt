use mathlib.Core.Path.{◌∙◌}
use Rattle.text.proofs.Refusals.{seen-refused}
use Rattle.heads.specs.Places.{name_from}
use Rattle.heads.proofs.name_from.Goals as goal

pub returns-in_err-t : goal.returns-in_err-t
unfolding name_from
returns-in_err-t c = seen-refused _ _ c.from_residual.ensures.1 ∙ rw (← c.next_token.ensures, ← c.in_err-t.ensures c.args.text.now, name_from)

pub returns-then-rooted-begins_at : goal.returns-then-rooted-begins_at
unfolding name_from
returns-then-rooted-begins_at c = rw (← c.next_token.ensures, ← c.in_ok-t.ensures c.args.text.now, ← (rw c.content-name.ensures at c.begins_at.ensures), ← (rw c.content-name.ensures at c.name_form.ensures), c.if-rooted-begins_at.true, name_from)

pub returns : goal.returns
unfolding name_from
returns c = rw (← c.next_token.ensures, ← c.in_ok-t.ensures c.args.text.now, ← (rw c.content-name.ensures at c.begins_at.ensures), ← (rw c.content-name.ensures at c.name_form.ensures), c.if-rooted-begins_at.false, name_from)
