use borrow.Author.Rules.{rules}
use mathlib.Core.Path.{refl, sym, ◌∙◌}
use Rattle.tokens.specs.Places.{seen}
use Rattle.tokens.proofs.Laws.{not_found}
use Rattle.keywords.specs.Keywords.{barred, word_is}
use Rattle.keywords.proofs.Laws.{none-at, same-token}
use Rattle.keywords.proofs.is_not_taken.Goals as goal

pub returns-then-not-may_begin : goal.returns-then-not-may_begin
returns-then-not-may_begin c = none-at c.args.inside c.args.text.now c.args.at.0 c.standing_at-place.result.0 c.standing_at-place.ensures (sym c.may_begin.ensures ∙ c.if-not-may_begin.true)

pub returns-in_default : goal.returns-in_default
returns-in_default c =
    let k = c.next_token.ensures ∙ same-token c.args.inside c.args.text.now c.args.at.0 c.standing_at-place.result.0 c.standing_at-place.ensures in
    rw (← k) (sym (not_found c.args.text.now c.next_token.result (search rules) (word_is (barred c.args.inside)) (λ n p. refl) (λ p. refl)))

pub returns : goal.returns
unfolding seen
returns c =
    let k = c.next_token.ensures ∙ same-token c.args.inside c.args.text.now c.args.at.0 c.standing_at-place.result.0 c.standing_at-place.ensures in
    rw (← k, c.in-Found.is, c.is_barred.ensures, c.content-word.ensures, seen)
