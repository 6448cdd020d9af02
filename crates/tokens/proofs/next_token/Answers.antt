use mathlib.Core.Path.{◌∙◌}
use native.Mathlib.Omega.{arith}
use Rattle.tokens.specs.Places.{seen}
use Rattle.tokens.proofs.Laws.{from_place, from_end, from-nul, from-hash, from-quote, from-stop, from-plain}
use Rattle.tokens.proofs.next_token.Goals as goal

pub returns-then-text-p : goal.returns-then-text-p
unfolding seen
returns-then-text-p c =
    from_place c.args.stop c.args.text.now c.args.at.0 c.standing_at-p.result.0 c.standing_at-p.ensures
    (from_end c.args.stop c.args.text.now c.standing_at-p.result.0 c.if-text-p.true)

pub returns-then-b-eq0 : goal.returns-then-b-eq0
unfolding seen
returns-then-b-eq0 c =
    from_place c.args.stop c.args.text.now c.args.at.0 c.standing_at-p.result.0 c.standing_at-p.ensures
    (from-nul c.args.stop c.args.text.now c.standing_at-p.result.0 (omega arith) c.if-b-eq0.true)

pub returns-then-b-eq35 : goal.returns-then-b-eq35
unfolding seen
returns-then-b-eq35 c =
    from_place c.args.stop c.args.text.now c.args.at.0 c.standing_at-p.result.0 c.standing_at-p.ensures
    (from-hash c.args.stop c.args.text.now c.standing_at-p.result.0 (omega arith) c.if-b-eq0.false c.if-b-eq35.true)

pub returns-then-b-eq34 : goal.returns-then-b-eq34
returns-then-b-eq34 c =
    from_place c.args.stop c.args.text.now c.args.at.0 c.standing_at-p.result.0 c.standing_at-p.ensures
    (c.quoted_token.ensures ∙ from-quote c.args.stop c.args.text.now c.standing_at-p.result.0 (omega arith) c.if-b-eq0.false c.if-b-eq35.false c.if-b-eq34.true)

pub returns-then-b-stop : goal.returns-then-b-stop
unfolding seen
returns-then-b-stop c =
    from_place c.args.stop c.args.text.now c.args.at.0 c.standing_at-p.result.0 c.standing_at-p.ensures
    (from-stop c.args.stop c.args.text.now c.standing_at-p.result.0 (omega arith) c.if-b-eq0.false c.if-b-eq35.false c.if-b-eq34.false c.if-b-stop.true)

pub returns : goal.returns
returns c =
    from_place c.args.stop c.args.text.now c.args.at.0 c.standing_at-p.result.0 c.standing_at-p.ensures
    (c.plain_token.ensures ∙ from-plain c.args.stop c.args.text.now c.standing_at-p.result.0 (omega arith) c.if-b-eq0.false c.if-b-eq35.false c.if-b-eq34.false c.if-b-stop.false)
