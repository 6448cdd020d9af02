use mathlib.Core.Path.{sym, ap₂, ◌∙◌}
use native.Mathlib.Omega.{arith}
use Prim.Native.Nat.{◌≤◌}
use lib.ListN.{length, get_or}
use borrow.Author.Tests.{not-true, not-false}
use Rattle.std.proofs.Common.{rules}
use Rattle.scan.specs.Bytes.{begins}
use Rattle.scan.proofs.Laws.{span_rest}
use Rattle.pattern.proofs.Laws.{cons-at}
use Rattle.direct.specs.Direct.{outcome_of}
use Rattle.direct.proofs.Turns.{one-within, outcome-rest, outcome-miss, outcome-next, outcome-end}
use Rattle.direct.proofs.compare.Goals as goal

pub returns-in_default-first_one : goal.returns-in_default-first_one
returns-in_default-first_one c =
    c.rest.ensures
    ∙ outcome-rest c.loop-bytes.after c.loop-bytes.left.now _ _ c.loop-bytes.bytes.now (cons-at c.loop-bytes.bytes.now 0 (omega arith)) (sym c.in_default-first_one.is ∙ c.first_one.ensures)
    ∙ c.loop-bytes.invariant

pub returns-then-not-one : goal.returns-then-not-one
returns-then-not-one c =
    outcome-miss c.loop-bytes.after c.loop-bytes.left.now _ _ c.loop-bytes.bytes.now (cons-at c.loop-bytes.bytes.now 0 (omega arith)) c.in-Some.one (sym c.in-Some.is ∙ c.first_one.ensures) (not-true c.in-Some.one.takes c.if-not-one.true)
    ∙ c.loop-bytes.invariant

pub slice_bounds-left-count : goal.slice_bounds-left-count
slice_bounds-left-count c = (one-within c.loop-bytes.after (get_or c.loop-bytes.bytes.now 0 0) c.loop-bytes.left.now c.in-Some.one (sym c.first_one.ensures ∙ c.in-Some.is)).1

pub slice_bounds-left-start : goal.slice_bounds-left-start
slice_bounds-left-start c =
    let h : c.in-Some.one.width ≤ length c.loop-bytes.left.now = (one-within c.loop-bytes.after (get_or c.loop-bytes.bytes.now 0 0) c.loop-bytes.left.now c.in-Some.one (sym c.first_one.ensures ∙ c.in-Some.is)).1 in search rules

pub loop-bytes-preserved : goal.loop-bytes-preserved
loop-bytes-preserved c =
    rw c.begins_at-after.ensures
    (ap₂ (outcome_of (begins 47 c.loop-bytes.left.now)) (span_rest c.loop-bytes.left.now c.in-Some.one.width) (span_rest c.loop-bytes.bytes.now 1)
    ∙ outcome-next c.loop-bytes.after c.loop-bytes.left.now _ _ c.loop-bytes.bytes.now (cons-at c.loop-bytes.bytes.now 0 (omega arith)) c.in-Some.one (sym c.in-Some.is ∙ c.first_one.ensures) (not-false c.in-Some.one.takes c.if-not-one.false)
    ∙ c.loop-bytes.invariant)

pub returns : goal.returns
returns c = c.rest-2.ensures ∙ outcome-end c.loop-bytes.after c.loop-bytes.left.now c.loop-bytes.bytes.now (omega arith) ∙ c.loop-bytes.invariant
