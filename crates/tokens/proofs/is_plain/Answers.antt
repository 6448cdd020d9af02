use Prim.Native.Nat.{ℕ, ◌≤◌}
use mathlib.Core.Path.{◌≡◌, refl}
use mathlib.Core.Bool.{false}
use lib.Dec.{eqb}
use native.Mathlib.Omega.{arith}
use borrow.Author.Tests.{ne_eqb}
use Rattle.tokens.proofs.is_plain.Goals as goal

pub returns-then-b-gt35 : goal.returns-then-b-gt35
returns-then-b-gt35 c =
    let other : (k : ℕ) → k ≤ 35 → eqb c.args.b k ≡ false = λ k h. ne_eqb c.args.b k (λ e. omega arith) in
    simp (other 32 (omega arith), other 9 (omega arith), other 13 (omega arith), other 10 (omega arith), other 35 (omega arith), other 0 (omega arith), other 34 (omega arith))

pub returns : goal.returns
returns c = refl
