use mathlib.Core.Path.{◌∙◌}
use Rattle.scan.specs.Bytes.{bytes}
use Rattle.text.proofs.Refusals.{seen-refused}
use Rattle.rule.specs.Rules.{pattern_from}
use Rattle.rule.proofs.pattern_at.Goals as goal

pub returns-then-is_not_taken : goal.returns-then-is_not_taken
unfolding pattern_from
returns-then-is_not_taken c = rw (← c.is_not_taken.ensures, c.if-is_not_taken.true, c.standing_at.ensures, pattern_from)

pub returns-in_err-t : goal.returns-in_err-t
unfolding pattern_from
returns-in_err-t c = seen-refused _ _ c.from_residual.ensures.1 ∙ rw (← c.is_not_taken.ensures, c.if-is_not_taken.false, ← c.in_err-t.ensures c.args.text.now, pattern_from)

pub returns-then-q-is_word : goal.returns-then-q-is_word
unfolding pattern_from bytes
returns-then-q-is_word c = rw (← c.is_not_taken.ensures, c.if-is_not_taken.false, ← c.in_ok-t.ensures c.args.text.now, ← c.is_word.ensures, c.if-q-is_word.true, pattern_from)

pub returns : goal.returns
unfolding pattern_from bytes
returns c = rw (← c.is_not_taken.ensures, c.if-is_not_taken.false, ← c.in_ok-t.ensures c.args.text.now, ← c.is_word.ensures, c.if-q-is_word.false, pattern_from)
