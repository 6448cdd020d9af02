-- The table of sizes: a row that was put is read back, and the other rows are kept.
use Prim.Native.Nat.{ℕ, zero, suc, ◌+◌, ◌*◌, ◌≤◌, ◌<◌, min}
use mathlib.Core.Path.{◌≡◌, refl, sym, ap, ◌∙◌}
use mathlib.Core.List.{List}
use mathlib.Core.Bool.{Bool, true, false}
use lib.ListN.{length, get_or, set, length-set}
use lib.Seq.{get_or-set_same, get_or-set_other}
use lib.Dec.{eqb}
use borrow.Author.Tests.{eqb-true, eqb-false}
use native.Mathlib.Nat.{not-suc-le-zero}
use native.Mathlib.Numerals.{add-one}
use native.Mathlib.Omega.{arith}
use Rattle.pattern.specs.Expansions.{listing}
use Rattle.pattern.specs.Table.{of_number, values_of}
use Rattle.sizes.specs.declared.Size.{Size}
use Rattle.sizes.specs.Sizes.{size_of, no_size, size_at, with_size, bit, Known}
use Rattle.sizes.specs.Numbered.{one_by}
use Rattle.sizes.proofs.Laws.{size-eq, size_none}
use Rattle.sizes.proofs.Numbered.{one_right}

module _ (t : List ℕ) (r : ℕ) (z : Size) where
  one : List ℕ
  one = set t (4 * r) z.count

  two : List ℕ
  two = set one (4 * r + 1) z.longest

  three : List ℕ
  three = set two (4 * r + 2) (bit z.empty)

  bit-one : (b : Bool) → eqb (bit b) 1 ≡ b
  bit-one true = refl
  bit-one false = refl

  pub length-put : length (with_size t r z) ≡ length t
  unfolding with_size
  length-put = simp length-set

  kept : (q j : ℕ) → 4 * q ≤ j → j < 4 * q + 4 → (q ≡ r → ⊥) → get_or (with_size t r z) j 0 ≡ get_or t j 0
  unfolding with_size
  kept q j h g n =
      let p0 : j ≡ 4 * r → ⊥ = λ e. n (omega arith) in
      let p1 : j ≡ 4 * r + 1 → ⊥ = λ e. n (omega arith) in
      let p2 : j ≡ 4 * r + 2 → ⊥ = λ e. n (omega arith) in
      let p3 : j ≡ 4 * r + 3 → ⊥ = λ e. n (omega arith) in
      rw (get_or-set_other, get_or-set_other, get_or-set_other, get_or-set_other)

  pub other-kept : (q : ℕ) → (q ≡ r → ⊥) → size_at (with_size t r z) q ≡ size_at t q
  unfolding size_at
  other-kept q n =
      size-eq (kept q (4 * q) (omega arith) (omega arith) n) (kept q (4 * q + 1) (omega arith) (omega arith) n)
      (ap (λ (x : ℕ). eqb x 1) (kept q (4 * q + 2) (omega arith) (omega arith) n)) (ap (λ (x : ℕ). eqb x 1) (kept q (4 * q + 3) (omega arith) (omega arith) n))

  pub row_put : 4 * r + 3 < length t → size_at (with_size t r z) r ≡ z
  unfolding size_at with_size one two three
  row_put h =
      let p1 : 4 * r ≡ 4 * r + 1 → ⊥ = λ e. omega arith in
      let p2 : 4 * r ≡ 4 * r + 2 → ⊥ = λ e. omega arith in
      let p3 : 4 * r ≡ 4 * r + 3 → ⊥ = λ e. omega arith in
      let q2 : 4 * r + 1 ≡ 4 * r + 2 → ⊥ = λ e. omega arith in
      let q3 : 4 * r + 1 ≡ 4 * r + 3 → ⊥ = λ e. omega arith in
      let s3 : 4 * r + 2 ≡ 4 * r + 3 → ⊥ = λ e. omega arith in
      size-eq
      (rw (get_or-set_other, get_or-set_other, get_or-set_other) (get_or-set_same t (4 * r) z.count 0 (omega arith)))
      (rw (get_or-set_other, get_or-set_other) (get_or-set_same one (4 * r + 1) z.longest 0 (simp length-set (omega arith))))
      (rw get_or-set_other (ap (λ (x : ℕ). eqb x 1) (get_or-set_same two (4 * r + 2) (bit z.empty) 0 (simp length-set (omega arith))) ∙ bit-one z.empty))
      (ap (λ (x : ℕ). eqb x 1) (get_or-set_same three (4 * r + 3) (bit z.slashed) 0 (simp length-set (omega arith))) ∙ bit-one z.slashed)

-- ---- the variables, one after the other

module _ (text vars t : List ℕ) where
  pub known-zero : (z : Size) → z ≡ no_size → 3 < length t → Known text vars 0 (with_size t 0 z)
  known-zero z e h =
      record { right = λ r l. go r (omega arith) }
    where
      go : (r : ℕ) → r ≤ 0 → size_at (with_size t 0 z) r ≡ size_of (of_number listing text vars r)
      go zero l = row_put t 0 z h ∙ e ∙ sym size_none
      go (suc r) l = absurd (not-suc-le-zero l)

  pub known_more : (w : ℕ) (z : Size) → w < 32 → length t ≡ 132 → Known text vars w t → z ≡ (one_by text vars w t (values_of text vars w)).size →
      Known text vars (w + 1) (with_size t (w + 1) z)
  known_more w z h size k e = record { right = λ r l. go r l (eqb r (w + 1)) refl }
    where
      own : z ≡ size_of (of_number listing text vars (w + 1))
      own = let b : min 32 w ≡ w = omega arith in e ∙ (one_right k (values_of text vars w)).size ∙ rw (b, add-one)

      go : (r : ℕ) → r ≤ min 32 (w + 1) → (x : Bool) → eqb r (w + 1) ≡ x → size_at (with_size t (w + 1) z) r ≡ size_of (of_number listing text vars r)
      go r l true p = let q : r ≡ w + 1 = eqb-true r (w + 1) p in rw q (row_put t (w + 1) z (omega arith) ∙ own)
      go r l false p =
          let n : r ≡ w + 1 → ⊥ = eqb-false r (w + 1) p in
          other-kept t (w + 1) z r n ∙ k.right r (omega arith)
