use mathlib.Core.Path.{◌∙◌}
use Rattle.scan.specs.Bytes.{bytes}
use Rattle.text.proofs.Refusals.{seen-refused}
use Rattle.rule_tail.specs.Tails.{comma_at}
use Rattle.rule_tail.proofs.comma_at.Goals as goal

pub returns-in_err-t : goal.returns-in_err-t
unfolding comma_at
returns-in_err-t c = seen-refused _ _ c.from_residual.ensures.1 ∙ rw (← c.next_token.ensures, ← c.in_err-t.ensures c.args.text.now, comma_at)

pub returns-then-is_word : goal.returns-then-is_word
unfolding comma_at bytes
returns-then-is_word c = rw (← c.next_token.ensures, ← c.in_ok-t.ensures c.args.text.now, ← c.is_word.ensures, c.if-is_word.true, comma_at)

pub returns : goal.returns
unfolding comma_at bytes
returns c = rw (← c.next_token.ensures, ← c.in_ok-t.ensures c.args.text.now, ← c.is_word.ensures, c.if-is_word.false, comma_at)
