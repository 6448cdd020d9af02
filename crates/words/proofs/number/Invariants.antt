use mathlib.Core.Path.{◌≡◌}
use Prim.Native.Nat.{◌-◌, ◌*◌, ◌^◌, ◌≤◌, ◌<◌}
use lib.ListN.{drop}
use Rattle.words.specs.Words.{word_of}
use Rattle.words.proofs.number.Given as goal

abbrev pub invariant-loop-i : goal.invariant-loop-i
invariant-loop-i l = (l.i ≤ l.n) × (l.w < 2 ^ (8 * (l.n - l.i))) × (l.w ≡ word_of (l.n - l.i) (drop l.i l.s))
