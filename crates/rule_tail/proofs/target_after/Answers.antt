use mathlib.Core.Path.{◌∙◌}
use Rattle.text.proofs.Refusals.{seen-refused}
use borrow.Author.Tests.{lt-ltb, le-ltb}
use Rattle.rule_tail.specs.Places.{target_after}
use Rattle.rule_tail.proofs.target_after.Goals as goal

pub returns-then-not-name_form : goal.returns-then-not-name_form
unfolding target_after
returns-then-not-name_form c = rw (← c.next_token.ensures, ← c.in_ok-t.ensures c.args.text.now, ← (rw c.content-name.ensures at c.name_form.ensures), c.if-not-name_form.true, target_after)

pub returns-then-name-gt-NAME_BYTES : goal.returns-then-name-gt-NAME_BYTES
unfolding target_after
returns-then-name-gt-NAME_BYTES c = rw (← c.next_token.ensures, ← c.in_ok-t.ensures c.args.text.now, ← (rw c.content-name.ensures at c.name_form.ensures), c.if-not-name_form.false, (rw c.content-name.ensures at (lt-ltb _ _ c.if-name-gt-NAME_BYTES.true)), target_after)

pub returns : goal.returns
unfolding target_after
returns c = rw (← c.next_token.ensures, ← c.in_ok-t.ensures c.args.text.now, ← (rw c.content-name.ensures at c.name_form.ensures), c.if-not-name_form.false, (rw c.content-name.ensures at (le-ltb _ _ c.if-name-gt-NAME_BYTES.false)), target_after)

pub returns-in_err-t : goal.returns-in_err-t
unfolding target_after
returns-in_err-t c = seen-refused _ _ c.from_residual.ensures.1 ∙ rw (← c.next_token.ensures, ← c.in_err-t.ensures c.args.text.now, target_after)
