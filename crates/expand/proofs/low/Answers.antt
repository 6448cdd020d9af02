use Prim.Native.Nat.{ℕ, zero, suc, ◌≤◌, ◌<◌}
use mathlib.Core.Path.{◌≡◌, refl, sym}
use native.Mathlib.Nat.{mod-one}
use native.Mathlib.Omega.{arith}
use borrow.Author.Tests.{ne_eqb}
use Rattle.sizes.specs.Numbered.{low_of}
use Rattle.expand.proofs.low.Goals as goal

low-one : (d c : ℕ) → c ≤ 1 → 0 ≡ low_of d c
unfolding low_of
low-one d zero h = refl
low-one d (suc zero) h = sym (mod-one d)
low-one d (suc (suc c)) h = absurd (omega arith)

pub returns-then-c-le1 : goal.returns-then-c-le1
returns-then-c-le1 c = low-one c.args.d c.args.c c.if-c-le1.true

pub returns : goal.returns
unfolding low_of
returns c =
    let n : 1 < c.args.c = c.if-c-le1.false in rw (ne_eqb c.args.c 0 (λ q. omega arith), low_of)
