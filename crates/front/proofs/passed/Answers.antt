use Prim.Native.Nat.{◌*◌}
use native.Mathlib.Omega.{arith}
use Rattle.front.specs.Front.{Passed}
use Rattle.front.proofs.Far.{below-add}
use Rattle.front.proofs.passed.Goals as goal

pub loop-k-preserved : goal.loop-k-preserved
loop-k-preserved c = λ j h. below-add (Passed c.args.pattern.now c.args.path.now) (16 * c.loop-k.k) 16 c.loop-k.invariant (c.agrees.ensures c.if-not-agrees.false) j (omega arith)
