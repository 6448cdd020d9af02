use Prim.Native.Nat.{ℕ, ◌*◌, ◌<◌}
use Rattle.front.specs.Front.{Passed}
use Rattle.front.proofs.passed.Given as goal

abbrev pub invariant-loop-k : goal.invariant-loop-k
invariant-loop-k l = (j : ℕ) → j < 16 * l.k → Passed l.pattern l.path j
