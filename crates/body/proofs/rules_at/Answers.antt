use native.Mathlib.Omega.{arith}
use Prim.Native.Nat.{ℕ, suc, ◌+◌, ◌-◌}
use mathlib.Core.Path.{◌≡◌, sym, ap, ◌∙◌}
use Rattle.faults.specs.Sized.{fault_by}
use Rattle.rule.specs.Rules.{end_at}
use Rattle.statement.specs.Steps.{counted_end}
use Rattle.text.proofs.Refusals.{seen-refused}
use Rattle.statement.proofs.Laws.{count-close, count-end, count-more, count-refused, from-none}
use Rattle.body.proofs.rules_at.Goals as goal

pub loop-count-init : goal.loop-count-init
loop-count-init c = let e : c.args.left - 0 ≡ c.args.left = omega arith in rw e (from-none _)

pub loop-count-preserved : goal.loop-count-preserved
loop-count-preserved c =
    let f = fault_by c.args.text.now c.args.vars.now c.args.n c.args.sizes.now in
    let e : c.args.left - c.loop-count.count ≡ suc (c.args.left - (c.loop-count.count + 1)) = omega arith in
    sym (count-more f c.args.text.now c.loop-count.place.0 c.loop-count.count (c.args.left - (c.loop-count.count + 1)) (rw c.in-Rule.is at c.in_ok-step.ensures.result_value)) ∙ (rw e at c.loop-count.invariant)

pub returns-in-Close : goal.returns-in-Close
returns-in-Close c =
    let f = fault_by c.args.text.now c.args.vars.now c.args.n c.args.sizes.now in
    let e : c.args.left - c.loop-count.count ≡ suc (c.args.left - (c.loop-count.count + 1)) = omega arith in
    sym (count-close f c.args.text.now c.loop-count.place.0 c.loop-count.count (c.args.left - (c.loop-count.count + 1)) (rw c.in-Close.is at c.in_ok-step.ensures.result_value)) ∙ (rw e at c.loop-count.invariant)

pub returns-in_err-step : goal.returns-in_err-step
returns-in_err-step c =
    let f = fault_by c.args.text.now c.args.vars.now c.args.n c.args.sizes.now in
    let e : c.args.left - c.loop-count.count ≡ suc (c.args.left - (c.loop-count.count + 1)) = omega arith in
    seen-refused _ _ c.from_residual.ensures.1 ∙ sym (count-refused f c.args.text.now c.loop-count.place.0 c.loop-count.count (c.args.left - (c.loop-count.count + 1)) c.in_err-step.ensures.result_value) ∙ (rw e at c.loop-count.invariant)

pub returns : goal.returns
returns c =
    let f = fault_by c.args.text.now c.args.vars.now c.args.n c.args.sizes.now in
    let k : c.args.left ≡ c.loop-count.count = omega arith in
    let e : c.args.left - c.loop-count.count ≡ 0 = omega arith in
    c.rules_end.ensures
    ∙ ap (λ (j : ℕ). counted_end j (end_at c.args.text.now c.loop-count.place.0)) k
    ∙ sym (count-end f c.args.text.now c.loop-count.place.0 c.loop-count.count)
    ∙ (rw e at c.loop-count.invariant)
