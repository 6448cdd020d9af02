use Rattle.std.specs.Prelude.{◌≡◌, ℕ, ◌+◌, ◌<◌, Bool, drop}
use Rattle.scan.specs.Bytes.{run}
use Rattle.scan.proofs.end_of.Given as goal

abbrev pub invariant-loop-i : goal.invariant-loop-i
invariant-loop-i g l =
    (p : ℕ → Bool) → ((b : ℕ) (r : Bool) → b < 256 → goal.F-post g l.takes b r → r ≡ p b) → l.i + run p (drop l.i l.s) ≡ l.at + run p (drop l.at l.s)
