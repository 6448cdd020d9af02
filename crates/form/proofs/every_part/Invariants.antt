use Rattle.std.specs.Prelude.{◌≡◌, ℕ, ◌-◌, ◌<◌, ◌^◌, Bool, true, length, drop}
use Rattle.scan.specs.Bytes.{every}
use Rattle.pattern.specs.Pieces.{Byte, Part, Is, parts}
use Rattle.pattern.specs.Places.{part_at}
use Rattle.form.proofs.every_part.Given as goal

abbrev pub invariant-loop-i : goal.invariant-loop-i
invariant-loop-i g l =
    (p : Part → Bool) → ((b : ℕ) → p (Is (Byte b)) ≡ true) → ((i : ℕ) (r : Bool) → i < 2 ^ 64 → goal.F-post g l.good i r → r ≡ p (part_at l.s i)) →
    every p (parts 0 (drop l.i l.s)) ≡ every p (parts 0 l.s)

abbrev pub decreases-loop-i : goal.decreases-loop-i
decreases-loop-i g l = length l.s - l.i
