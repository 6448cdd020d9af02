use Prim.Native.Nat.{◌-◌, ◌≤◌, min}
use lib.ListN.{length, drop}
use Rattle.sizes.specs.Numbered.{name_by, one_by}
use Rattle.pattern.specs.Items.{alternatives}
use Rattle.sizes.proofs.Loops.{Summed, one_from}
use Rattle.measure.proofs.among_size.Given as goal

abbrev pub invariant-loop-s : goal.invariant-loop-s
invariant-loop-s l = (l.i ≤ length l.s) × Summed l.size (one_from (name_by l.text l.vars l.sizes (min 32 l.n)) (alternatives (drop l.i l.s))) (one_by l.text l.vars l.n l.sizes (alternatives l.s)).size

abbrev pub decreases-loop-s : goal.decreases-loop-s
decreases-loop-s l = length l.s - l.i
