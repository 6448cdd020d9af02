use Rattle.std.specs.Prelude.{ℕ, ◌-◌, ◌≤◌, length}
use Rattle.sizes.specs.declared.Size.{Size}
use Rattle.sizes.proofs.Loops.{Passed}
use Rattle.measure.specs.Walks.{Left}
use Rattle.measure.proofs.sized.Given as goal

abbrev pub invariant-loop-at : goal.invariant-loop-at
invariant-loop-at g l =
    (l.at ≤ length l.s) × ((left : ℕ → Size) → Left (goal.N-post g l.next) (goal.F-post g l.one) l.s left → Passed l.size (left l.at) (left 0))

abbrev pub decreases-loop-at : goal.decreases-loop-at
decreases-loop-at g l = length l.s - l.at
