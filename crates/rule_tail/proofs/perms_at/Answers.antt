use mathlib.Core.Path.{◌∙◌}
use Rattle.scan.specs.Bytes.{bytes}
use Rattle.text.proofs.Refusals.{seen-refused}
use Rattle.rule_tail.specs.Tails.{perms_at}
use Rattle.rule_tail.proofs.perms_at.Goals as goal

pub returns-in_err-t : goal.returns-in_err-t
unfolding perms_at
returns-in_err-t c = seen-refused _ _ c.from_residual.ensures.1 ∙ rw (← c.next_token.ensures, ← c.in_err-t.ensures c.args.text.now, perms_at)

pub returns-then-t-is_word : goal.returns-then-t-is_word
unfolding perms_at bytes
returns-then-t-is_word c = rw (← c.next_token.ensures, ← c.in_ok-t.ensures c.args.text.now, ← c.is_word.ensures, c.if-t-is_word.true, perms_at)

pub returns-in_default : goal.returns-in_default
unfolding perms_at bytes
returns-in_default c = rw (← c.next_token.ensures, ← c.in_ok-t.ensures c.args.text.now, ← c.is_word.ensures, c.if-t-is_word.false, ← (rw c.content-word.ensures at c.read_word.ensures), c.in_default.is, perms_at)

pub returns : goal.returns
unfolding perms_at bytes
returns c = rw (← c.next_token.ensures, ← c.in_ok-t.ensures c.args.text.now, ← c.is_word.ensures, c.if-t-is_word.false, ← (rw c.content-word.ensures at c.in-Some.ensures), perms_at)
