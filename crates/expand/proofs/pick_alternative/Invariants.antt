use mathlib.Core.Path.{◌≡◌}
use Prim.Native.Nat.{◌-◌, ◌≤◌}
use lib.ListN.{length, drop}
use Rattle.scan.specs.Bytes.{span}
use Rattle.pattern.specs.Items.{alternatives}
use Rattle.sizes.specs.Numbered.{one_by}
use Rattle.expand.proofs.pick_alternative.Given as goal

abbrev pub invariant-loop-left : goal.invariant-loop-left
invariant-loop-left l = (l.i ≤ length l.s) × ((one_by l.text l.vars l.n l.sizes (alternatives (drop l.i l.s))).nth l.left ≡ (one_by l.text l.vars l.n l.sizes (alternatives (span l.text l.a l.e))).nth l.d)

abbrev pub decreases-loop-left : goal.decreases-loop-left
decreases-loop-left l = length l.s - l.i
