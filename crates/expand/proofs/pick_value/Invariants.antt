use mathlib.Core.Path.{◌≡◌}
use Prim.Native.Nat.{◌+◌, ◌-◌, ◌*◌}
use Rattle.pattern.specs.Table.{values_from, values_of}
use Rattle.sizes.specs.Numbered.{one_by}
use Rattle.expand.proofs.pick_value.Given as goal

abbrev pub invariant-loop-k : goal.invariant-loop-k
invariant-loop-k l = (one_by l.text l.vars l.w l.sizes (values_from l.text l.vars (l.m - l.k) (16 * l.w + l.k))).nth l.left ≡ (one_by l.text l.vars l.w l.sizes (values_of l.text l.vars l.w)).nth l.d
