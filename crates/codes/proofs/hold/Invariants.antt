use mathlib.Core.Path.{◌≡◌}
use mathlib.Core.List.{List, map}
use Prim.Native.Nat.{ℕ, ◌-◌, ◌≤◌, max}
use lib.ListN.{length, take, drop}
use Rattle.pattern.specs.Codes.{decode}
use Rattle.codes.specs.Held.{held_from, held_pieces}
use Rattle.codes.proofs.hold.Given as goal

abbrev pub invariant-loop-i : goal.invariant-loop-i
invariant-loop-i l = (l.at ≤ max l.initial.at (length l.path))
    × ((text : List ℕ) → held_pieces l.path (held_from l.at l.slash) (map (decode text) (drop l.i (take l.end l.codes)))
    ≡ held_pieces l.path (held_from l.initial.at l.initial.slash) (map (decode text) (drop l.from (take l.to l.codes))))
