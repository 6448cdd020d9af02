use mathlib.Core.Path.{◌≡◌}
use mathlib.Core.List.{◌++◌}
use Prim.Native.Nat.{◌≤◌}
use lib.ListN.{length, take, drop}
use Rattle.pattern.specs.Codes.{joined_codes_after}
use Rattle.codes.proofs.join_slashes.Given as goal

abbrev pub invariant-loop-i : goal.invariant-loop-i
invariant-loop-i l = (l.at ≤ l.i)
    × (length l.codes ≡ length l.initial.codes)
    × (drop l.i l.codes ≡ drop l.i l.initial.codes)
    × (take l.at l.codes ++ joined_codes_after l.after (drop l.i (take l.n l.initial.codes)) ≡ joined_codes_after l.slash (take l.n l.initial.codes))
