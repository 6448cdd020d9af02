use Rattle.std.specs.Prelude.{◌≡◌, length}
use Rattle.scan.specs.Bytes.{between, some}
use Rattle.class.specs.Class.{Range, ranges}
use Rattle.class.proofs.is_listed.Given as goal

abbrev pub invariant-loop-left : goal.invariant-loop-left
invariant-loop-left l =
    some (λ (r : Range). between r.low r.high l.b) (ranges 0 l.left) ≡ some (λ (r : Range). between r.low r.high l.b) (ranges 0 l.members)

abbrev pub decreases-loop-left : goal.decreases-loop-left
decreases-loop-left l = length l.left
