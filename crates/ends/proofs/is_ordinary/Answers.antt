use borrow.Author.Tests.{ne_eqb, leb-true}
use native.Mathlib.Omega.{arith}
use Prim.Native.Nat.{ℕ, ◌≤◌, ◌<◌}
use mathlib.Core.Path.{◌≡◌, sym}
use mathlib.Core.Logic.{◌⊎◌, inl, inr, ⊎_elim}
use mathlib.Core.Bool.{false}
use lib.Dec.{eqb, leb}
use Rattle.scan.proofs.Bools.{and_left, and_right}
use Rattle.ends.proofs.is_ordinary.Goals as goal

pub returns-then-b : goal.returns-then-b
returns-then-b c =
    let low : 97 ≤ c.args.b = leb-true 97 c.args.b (and_left (leb 97 c.args.b) (leb c.args.b 122) c.if-b.true) in
    let high : c.args.b ≤ 122 = leb-true c.args.b 122 (and_right (leb 97 c.args.b) (leb c.args.b 122) c.if-b.true) in
    let other : (k : ℕ) → (k < 97) ⊎ (122 < k) → eqb c.args.b k ≡ false = λ k h. ne_eqb c.args.b k (λ q. ⊎_elim (λ l. absurd (omega arith)) (λ g. absurd (omega arith)) h) in
    sym (rw (other 92 (inl (omega arith)), other 63 (inl (omega arith)), other 42 (inl (omega arith)), other 91 (inl (omega arith)), other 93 (inl (omega arith)), other 123 (inr (omega arith)), other 125 (inr (omega arith)), other 64 (inl (omega arith)), other 94 (inl (omega arith))))
