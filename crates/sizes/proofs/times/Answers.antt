use native.Mathlib.Omega.{arith}
use Prim.Native.Nat.{min}
use mathlib.Core.Path.{◌≡◌, refl}
use Rattle.sizes.specs.Sizes.{times_of}
use Rattle.sizes.proofs.Laws.{size-eq}
use Rattle.sizes.proofs.times.Goals as goal

pub returns : goal.returns
unfolding times_of
returns c =
    let p : c.min.result ≡ min 257 c.args.a.count = omega arith in
    let q : c.min-2.result ≡ min 257 c.args.b.count = omega arith in
    let r : c.min-3.result ≡ min 1025 c.args.a.longest = omega arith in
    let t : c.min-4.result ≡ min 1025 c.args.b.longest = omega arith in
    rw (← p, ← q, ← r, ← t) (size-eq (omega arith) c.limit.ensures refl refl)
