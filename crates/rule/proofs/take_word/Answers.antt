use mathlib.Core.Path.{refl, sym}
use Rattle.tokens.specs.Places.{seen}
use Rattle.tokens.proofs.Laws.{not_found}
use Rattle.rule_tail.proofs.Laws.{not-token}
use Rattle.rule.specs.Rules.{if_word, optional}
use Rattle.rule.proofs.take_word.Goals as goal

pub returns-in_default : goal.returns-in_default
unfolding optional
returns-in_default c = λ k. record { is = rw (← k, optional) (sym (not_found c.args.text.now c.args.token (not-token _ c.in_default.not-Found) (if_word c.args.word.now c.args.at.0) (λ n p. refl) (λ p. refl))); token = k }

pub returns-then-is_word : goal.returns-then-is_word
unfolding optional seen
returns-then-is_word c = λ k. record { is = rw (← k, c.in-Found.is, seen, ← c.is_word.ensures, c.if-is_word.true, optional); token = c.next_token-after.ensures }

pub returns : goal.returns
unfolding optional seen
returns c = λ k. record { is = rw (← k, c.in-Found.is, seen, ← c.is_word.ensures, c.if-is_word.false, optional); token = rw c.in-Found.is at k }
