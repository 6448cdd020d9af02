use mathlib.Core.Path.{◌≡◌}
use lib.ListN.{take}
use Rattle.layout.proofs.copy.Given as goal

abbrev pub invariant-loop-i : goal.invariant-loop-i
invariant-loop-i l = take l.i l.part ≡ take l.i l.bytes
