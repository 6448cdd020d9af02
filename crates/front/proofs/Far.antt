-- Bytes that are passed over as the path's keep what a pattern's front does to it.
use Rattle.std.specs.Prelude.{if◌then◌else◌, Option, Some, None, slice_get}
use Rattle.std.proofs.Common.{Bor}
use Rattle.std.specs.Option.{option_eq, option_copied}
use mathlib.Core.Path.{◌≡◌, refl, sym, subst, ◌∙◌}
use mathlib.Core.Bool.{Bool, true, false}
use mathlib.Core.List.{List, [], ◌∷◌}
use Prim.Native.Nat.{ℕ, zero, suc, ◌+◌, ◌-◌, ◌≤◌, ◌<◌}
use Prim.Native.Char.{code}
use native.Mathlib.Numerals.{add-one}
use native.Mathlib.Omega.{arith}
use lib.ListN.{length, take, drop, get_or, length-drop}
use lib.Dec.{eqb, ltb}
use borrow.Author.Tests.{ltb-true, ltb-false}
use Rattle.scan.specs.Bytes.{span}
use Rattle.scan.proofs.Laws.{span_rest}
use Rattle.front.specs.Front.{plain_after, front_after, slash_after, lead_of, Passed}
use Rattle.front.specs.declared.Led.{Led}
use Rattle.front.proofs.Laws.{lead-none, lead-some, lead-len, lead-slash}
use Rattle.front.proofs.Turns.{lead_from, lead-first, lead-next}

-- whether a / stands before a place is told by the byte before it
pub slash-none : (slash : Bool) (s : List ℕ) → slash_after slash (take 0 s) ≡ slash
unfolding slash_after
slash-none slash s = refl

pub slash-last : (slash : Bool) (s : List ℕ) (k : ℕ) → k < length s → slash_after slash (take (suc k) s) ≡ eqb (get_or s k 0) (code "/")
unfolding slash_after
slash-last slash [] k h = absurd (omega arith)
slash-last slash (b ∷ s) zero h = refl
slash-last slash (b ∷ s) (suc k) h = slash-last (eqb b (code "/")) s k (omega arith)

pub slash-ends : (s : List ℕ) → option_eq eqb (slice_get s (length s - 1)) (Some (code "/")) ≡ slash_after false s
unfolding slash_after
slash-ends [] = refl
slash-ends (b ∷ []) = refl
slash-ends (b ∷ c ∷ s) = let n : suc (suc (length s)) - 1 ≡ suc (suc (length s) - 1) = omega arith in rw n (slash-ends (c ∷ s))

-- a byte that is lent is compared by its value
pub same-got : (r : Option (Bor ℕ)) (b : Bor ℕ) → option_eq (λ x y. eqb x.now y.now) r (Some b) ≡ option_eq eqb (option_copied r) (Some b.now)
same-got None b = refl
same-got (Some x) b = refl

-- what holds of each below i, and of each of the n from i on, holds of each below i + n
pub below-add : (P : ℕ → Type 0) (i n : ℕ) → ((k : ℕ) → k < i → P k) → ((k : ℕ) → k < n → P (i + k)) → (k : ℕ) → k < i + n → P k
below-add P i n all more k h = go (ltb k i) refl
  where
    go : (x : Bool) → ltb k i ≡ x → P k
    go true e = all k (ltb-true k i e)
    go false e =
        let l : i ≤ k = ltb-false k i e in
        subst P (omega arith) (more (k - i) (omega arith))

module _ (s path : List ℕ) where
  -- a byte passed over is plain behind those before it, and k bytes passed over change nothing
  passed-plain : (k : ℕ) → k < length path → ((j : ℕ) → j < suc k → Passed s path j) → plain_after (slash_after false (take k path)) (get_or s k 0) ≡ true
  passed-plain zero h p = rw (slash-none false path, (p 0 (omega arith)).literal)
  passed-plain (suc k) h p =
      let n : get_or s (k + 1) 0 ≡ get_or s (suc k) 0 = rw (add-one k) in
      rw (slash-last false path k (omega arith), (p k (omega arith)).same, ← n, (p k (omega arith)).single, n, (p (suc k) (omega arith)).literal)

  passed_over : (k : ℕ) → k ≤ length s → k ≤ length path → ((j : ℕ) → j < k → Passed s path j) → lead_from k (slash_after false (take k path)) s path ≡ lead_of false s path
  passed_over zero h l p = rw (slash-none false path) (lead-first s path false)
  passed_over (suc k) h l p =
      rw (slash-last false path k (omega arith), (p k (omega arith)).same, ← add-one k)
      (lead-next s path k (slash_after false (take k path)) (omega arith) (passed-plain k (omega arith) p) (omega arith) (p k (omega arith)).same
      ∙ passed_over k (omega arith) (omega arith) (λ j g. p j (omega arith)))

-- a front is no longer than the pattern
pub front-le : (slash : Bool) (s : List ℕ) → length (front_after slash s) ≤ length s
unfolding front_after
front-le slash [] = omega arith
front-le slash (b ∷ s) = go (plain_after slash b) (front-le (eqb b (code "/")) s)
  where
    go : (t : Bool) → length (front_after (eqb b (code "/")) s) ≤ length s → length (if t then b ∷ front_after (eqb b (code "/")) s else []) ≤ suc (length s)
    go true h = omega arith
    go false h = omega arith

-- k bytes are passed over, and r is what the rest of the front does to the rest of the path
module _
    (s path : List ℕ) (k : ℕ) (within : (k ≤ length s) × (k ≤ length path)) (passed : (j : ℕ) → j < k → Passed s path j)
    {slash : Bool} (before : slash ≡ slash_after false (take k path)) {left : List ℕ} (rest : left ≡ span path k (length path))
    {r : Option Led} (told : r ≡ lead_of slash (span s k (length s)) left)
  where
    of-rest : r ≡ lead_of slash (drop k s) (drop k path)
    of-rest = told ∙ rw (span_rest s k, rest, span_rest path k)

    whole : lead_from k slash s path ≡ lead_of false s path
    whole = rw before (passed_over s path k within.0 within.1 passed)

    -- it begins that
    module _ {l : Led} (e : r ≡ Some l) where
      is : lead_of slash (drop k s) (drop k path) ≡ Some l
      is = sym of-rest ∙ e

      len-rest : l.len ≡ length (front_after slash (drop k s))
      len-rest = lead-len slash (drop k s) (drop k path) is

      pub far_within : k + l.len ≤ length s
      far_within = omega (arith, len-rest, front-le slash (drop k s), length-drop k s)

      pub far-fits : Some (record { len = k + l.len; slash = l.slash }) ≡ lead_of false s path
      far-fits =
          let n : k + l.len ≡ length (front_after slash (drop k s)) + k = omega (arith, len-rest) in
          let from : Some (record { len = k + l.len; slash = l.slash }) ≡ lead_from k slash s path =
          rw (lead-some slash (drop k s) (drop k path) is, n, lead-slash slash (drop k s) (drop k path) is) in
          from ∙ whole

    -- it does not
    pub far-differs : r ≡ None → None ≡ lead_of false s path
    far-differs e = (rw (lead-none slash (drop k s) (drop k path) (sym of-rest ∙ e))) ∙ whole
