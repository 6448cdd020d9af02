use mathlib.Core.Path.{◌≡◌}
use Prim.Native.Nat.{min, ◌-◌, ◌≤◌}
use lib.ListN.{drop, get_or}
use Rattle.entries.specs.Entries.{names_from}
use Rattle.asking.specs.Steps.{first_named}
use Rattle.asking.proofs.find.Given as goal

abbrev pub invariant-loop-i : goal.invariant-loop-i
invariant-loop-i l = (l.n ≤ 32) × (first_named l.name l.i (names_from l.text (drop 1120 l.head) (l.n - l.i) l.i) ≡ first_named l.name 0 (names_from l.text (drop 1120 l.head) (min 32 (get_or l.head 1249 0)) 0))
