use Prim.Native.Nat.{◌*◌}
use native.Mathlib.Omega.{arith}
use native.Mathlib.Nat.{min-eq_left, min-eq_right}
use lib.Pow.{shl_exact}
use Rattle.words.specs.Words.{mask_of}
use Rattle.words.proofs.mask_of.Goals as goal

pub returns-then-n-lt8 : goal.returns-then-n-lt8
unfolding mask_of
returns-then-n-lt8 c = rw (min-eq_right {n = c.args.n} {m = 8} (omega arith)) (omega (arith, shl_exact {a = 1} 1 (8 * c.args.n) 64 (omega arith) (omega arith)))

pub returns : goal.returns
unfolding mask_of
returns c = rw (min-eq_left {n = 8} {m = c.args.n} (omega arith))
