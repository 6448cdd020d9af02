use native.Mathlib.Omega.{arith}
use Prim.Native.Nat.{◌-◌}
use lib.ListN.{length-take}
use Rattle.pattern.proofs.Laws.{up_to-le}
use Rattle.direct.proofs.class_one.Goals as goal

pub slice_bounds-class-length : goal.slice_bounds-class-length
slice_bounds-class-length c = omega (arith, c.up_to-n.ensures, up_to-le 93 c.args.s.now, length-take (c.up_to-n.result - 1) c.args.s.now)

pub overflow_add-result : goal.overflow_add-result
overflow_add-result c = omega (arith, c.up_to-n.ensures, up_to-le 93 c.args.s.now)
