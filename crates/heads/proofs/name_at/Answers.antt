use mathlib.Core.Path.{refl, sym, ◌∙◌}
use Rattle.scan.specs.Bytes.{bytes}
use Rattle.tokens.specs.Places.{seen}
use Rattle.tokens.proofs.Laws.{not_found}
use Rattle.rule_tail.proofs.Laws.{not-token}
use Rattle.rule.specs.Rules.{if_word}
use Rattle.heads.specs.Heads.{name_at}
use Rattle.heads.specs.Places.{name_from}
use Rattle.heads.proofs.Laws.{name-word}
use Rattle.heads.proofs.name_at.Goals as goal

pub returns-in_default : goal.returns-in_default
unfolding name_at name_from bytes
returns-in_default c = c.name_from.ensures ∙ rw (← c.next_token.ensures, not_found c.args.text.now c.next_token.result (not-token _ c.in_default.not-Found) (if_word (bytes "profile") c.args.at.0) (λ n p. refl) (λ p. refl), name_at)

pub returns-then-is_word : goal.returns-then-is_word
unfolding seen bytes
returns-then-is_word c = c.name_from-then-is_word.ensures ∙ sym (name-word c.args.text.now c.args.at.0 _ (rw (← c.in-Found.ensures, ← c.is_word.ensures, c.if-is_word.true)))

pub returns : goal.returns
unfolding name_at name_from seen bytes
returns c = c.name_from-2.ensures ∙ rw (← c.in-Found.ensures, ← c.is_word.ensures, c.if-is_word.false, name_at)
