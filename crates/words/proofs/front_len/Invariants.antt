use mathlib.Core.Path.{◌≡◌}
use mathlib.Core.Bool.{false}
use Prim.Native.Nat.{◌+◌}
use lib.ListN.{length, drop}
use Rattle.front.specs.Front.{front_after}
use Rattle.words.proofs.front_len.Given as goal

abbrev pub invariant-loop-i : goal.invariant-loop-i
invariant-loop-i l = l.i + length (front_after l.slash (drop l.i l.pattern)) ≡ length (front_after false l.pattern)
