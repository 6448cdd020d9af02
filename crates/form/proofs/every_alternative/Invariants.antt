use Rattle.std.specs.Prelude.{◌≡◌, ℕ, ◌-◌, ◌≤◌, ◌<◌, ◌^◌, List, Bool, length, drop}
use Rattle.scan.specs.Bytes.{every, span}
use Rattle.pattern.specs.Items.{alternatives}
use Rattle.form.proofs.every_alternative.Given as goal

abbrev pub invariant-loop-s : goal.invariant-loop-s
invariant-loop-s g l =
    (l.i ≤ length l.s)
    × ((p : List ℕ → Bool) → ((i j : ℕ) (r : Bool) → i < 2 ^ 64 → j < 2 ^ 64 → goal.F-post g l.good i j r → r ≡ p (span l.text i j)) →
    every p (alternatives (drop l.i l.s)) ≡ every p (alternatives (span l.text l.a l.e)))

abbrev pub decreases-loop-s : goal.decreases-loop-s
decreases-loop-s g l = length l.s - l.i
