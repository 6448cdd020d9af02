use Prim.Native.Nat.{ℕ, ◌+◌, ◌<◌}
use mathlib.Core.Path.{◌≡◌}
use mathlib.Core.Bool.{false}
use Rattle.front.specs.Front.{Passed}
use Rattle.front.proofs.agrees.Given as goal

abbrev pub invariant-loop-i : goal.invariant-loop-i
invariant-loop-i l = l.differs ≡ false → (j : ℕ) → j < l.i → Passed l.pattern l.path (l.at + j)
