use mathlib.Core.Path.{◌≡◌}
use Prim.Native.Nat.{◌≤◌, ◌<◌}
use lib.ListN.{length, drop}
use lib.Bits.{bit_or}
use Rattle.perms_word.specs.Words.{carried}
use Rattle.perms_word.proofs.set_of.Given as goal

abbrev pub invariant-loop-b : goal.invariant-loop-b
invariant-loop-b l = (l.b-index ≤ length l.word) × ((l.set.0 < 256) × (bit_or l.set.0 (carried (drop l.b-index l.word)) ≡ carried l.word))
