use Prim.Native.Nat.{◌-◌, ◌≤◌}
use mathlib.Core.Path.{◌≡◌}
use Rattle.decide.specs.Places.{found_from}
use Rattle.decide.proofs.find.Given as goal

abbrev pub invariant-loop-i : goal.invariant-loop-i
invariant-loop-i l = (l.n ≤ 32) × (found_from l.text l.table l.n 0 l.name ≡ found_from l.text l.table (l.n - l.i) l.i l.name)
