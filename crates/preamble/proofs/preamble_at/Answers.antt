use native.Mathlib.Omega.{arith}
use mathlib.Core.Path.{refl, sym, ap, ◌∙◌}
use Rattle.scan.specs.Bytes.{bytes}
use Rattle.pattern.specs.Table.{variables}
use Rattle.preamble.specs.Places.{preamble_of, seen_preamble}
use Rattle.std.proofs.lemmas.Result.{err_from_is_err_and}
use Rattle.preamble.proofs.Laws.{preamble-none, turn-refused, turn-full, turn_more}
use Rattle.preamble.proofs.preamble_at.Goals as goal

pub loop-vars-init : goal.loop-vars-init
unfolding variables
loop-vars-init c = (refl, omega arith)

pub assignment_at-requires : goal.assignment_at-requires
unfolding bytes
assignment_at-requires c = sym c.stands_at.ensures ∙ c.loop-vars-test.true

pub returns-in_err-a-clause-result_after : goal.returns-in_err-a-clause-result_after
unfolding bytes
returns-in_err-a-clause-result_after c =
    let p = err_from_is_err_and c.from_residual.result c.from_residual.ensures.1 in
    rw (p.1, p.2)
    (turn-refused c.args.text.now c.loop-vars.vars c.loop-vars.count c.loop-vars.at.0 c.loop-vars.left c.loop-vars.invariant.0 (sym c.stands_at.ensures ∙ c.loop-vars-test.true) _ c.in_err-a.field-0.0 c.in_err-a.ensures.result_after)

pub returns-then-left-eq0-clause-result_after : goal.returns-then-left-eq0-clause-result_after
unfolding bytes seen_preamble
returns-then-left-eq0-clause-result_after c =
    turn-full c.args.text.now c.loop-vars.vars c.loop-vars.count c.loop-vars.at.0 c.loop-vars.left c.loop-vars.invariant.0 (sym c.stands_at.ensures ∙ c.loop-vars-test.true) _ c.in_ok-a.a c.in_ok-a.ensures.result_after c.if-left-eq0.true c.standing_at.ensures

pub loop-vars-preserved : goal.loop-vars-preserved
unfolding bytes
loop-vars-preserved c = (turn_more c.args.text.now c.loop-vars.vars c.loop-vars.count c.loop-vars.at.0 c.loop-vars.left c.loop-vars.invariant.0 (sym c.stands_at.ensures ∙ c.loop-vars-test.true) _ c.in_ok-a.a c.in_ok-a.ensures.result_after c.if-left-eq0.false, c.in_ok-a.ensures.few c.loop-vars.invariant.1)

pub returns-clause-result_after : goal.returns-clause-result_after
unfolding bytes seen_preamble preamble_of
returns-clause-result_after c =
    sym (ap preamble_of (preamble-none _ _ _ c.loop-vars.left (sym c.stands_at.ensures ∙ c.loop-vars-test.false))) ∙ c.loop-vars.invariant.0
