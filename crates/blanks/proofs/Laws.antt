-- What the definition of blanks and comments says at a place of a text.
use Rattle.std.specs.Prelude.{if◌then◌else◌}
use Prim.Native.Nat.{ℕ, zero, suc, ◌+◌, ◌≤◌, ◌<◌, ◌-◌}
use mathlib.Core.Path.{◌≡◌, refl, ap}
use mathlib.Core.List.{List, [], ◌∷◌}
use mathlib.Core.Bool.{Bool, true, false, not, ◌&&◌}
use lib.ListN.{length, get_or, take, drop, drop_of_length-le, length-drop, length-take}
use lib.Seq.{drop-cons, drop-drop}
use lib.Dec.{eqb}
use native.Mathlib.Numerals.{add-one}
use native.Mathlib.Omega.{arith}
use borrow.Author.Tests.{ne_eqb}
use Rattle.scan.specs.Bytes.{run}
use Rattle.scan.proofs.Laws.{same-eq, run-le}
use Rattle.blanks.specs.Blanks.{blank, hash, includes, in_comment, skip, standing, stands_at}

-- bytes that are known to be blanks and comments, and then what follows them
skip-known : (k : ℕ) (s : List ℕ) → k ≤ length s → skip k s ≡ k + skip 0 (drop k s)
unfolding skip
skip-known zero s h = omega arith
skip-known (suc k) [] h = absurd (omega arith)
skip-known (suc k) (b ∷ s) h = omega (arith, skip-known k s (omega arith))

-- at a place: a blank, another byte, #include, a comment, the end
module _ (s : List ℕ) (i : ℕ) where
  pub skip-blank : i < length s → blank (get_or s i 0) ≡ true → skip 0 (drop i s) ≡ suc (skip 0 (drop (i + 1) s))
  unfolding skip
  skip-blank h e = rw (add-one, drop-cons s i 0, e, skip)

  pub skip-other : i < length s → blank (get_or s i 0) ≡ false → (get_or s i 0 ≡ hash → ⊥) → skip 0 (drop i s) ≡ 0
  unfolding skip
  skip-other h k n = rw (drop-cons s i 0, k, ne_eqb _ _ n, skip)

  pub skip-include : i < length s → get_or s i 0 ≡ hash → includes (drop i s) ≡ true → skip 0 (drop i s) ≡ 0
  unfolding skip
  skip-include h n = rw (drop-cons s i 0, n) λ e. rw (e, skip)

  pub skip-hash : i < length s → get_or s i 0 ≡ hash → includes (drop i s) ≡ false → (e : ℕ) → e ≡ i + 1 + run in_comment (drop (i + 1) s) →
      i + skip 0 (drop i s) ≡ e + skip 0 (drop e s)
  unfolding skip
  skip-hash h n = rw (drop-cons s i 0, n) λ f e q.
      let r : ℕ = run in_comment (drop (suc i) s) in
      let q' : e ≡ suc i + r = rw add-one at q in
      let h : skip 0 (hash ∷ drop (suc i) s) ≡ suc (skip r (drop (suc i) s)) = rw (f, skip) in
      let k : skip r (drop (suc i) s) ≡ r + skip 0 (drop (suc i + r) s) = rw drop-drop at (skip-known r (drop (suc i) s) (run-le in_comment (drop (suc i) s))) in
      rw q' (omega arith)

  pub skip-end : length s ≤ i → skip 0 (drop i s) ≡ 0
  unfolding skip
  skip-end h = rw (drop_of_length-le s h)

-- blanks and comments are inside the text
skip-le : (k : ℕ) (s : List ℕ) → skip k s ≤ length s
unfolding skip
skip-le k [] = omega arith
skip-le (suc k) (b ∷ s) = omega (arith, skip-le k s)
skip-le zero (b ∷ s) = go (blank b) (eqb b hash && not (includes (b ∷ s))) (skip-le 0 s) (skip-le (run in_comment s) s)
  where
    go : (k h : Bool) → skip 0 s ≤ length s → skip (run in_comment s) s ≤ length s →
        (if k then suc (skip 0 s) else if h then suc (skip (run in_comment s) s) else 0) ≤ suc (length s)
    go true h e f = omega arith
    go false true e f = omega arith
    go false false e f = omega arith

pub standing-inside : (s : List ℕ) (at : ℕ) → at ≤ length s → standing s at ≤ length s
standing-inside s at h = omega (arith, skip-le 0 (drop at s), length-drop at s)

-- a word that stands at a place is inside the text
pub stands-inside : (w s : List ℕ) (at : ℕ) → stands_at w s at ≡ true → length w ≤ length s - standing s at
stands-inside w s at e =
    let p : ℕ = standing s at in
    omega (arith, ap length (same-eq (take (length w) (drop p s)) w e), length-take (length w) (drop p s), length-drop p s)

-- where something stands, no blank or comment does
settled : (k : ℕ) (s : List ℕ) → skip 0 (drop (skip k s) s) ≡ 0
unfolding skip
settled k [] = refl
settled (suc k) (b ∷ s) = settled k s
settled zero (b ∷ s) = go (blank b) refl (eqb b hash && not (includes (b ∷ s))) refl (settled 0 s) (settled (run in_comment s) s)
  where
    go : (k : Bool) → blank b ≡ k → (h : Bool) → (eqb b hash && not (includes (b ∷ s))) ≡ h →
        skip 0 (drop (skip 0 s) s) ≡ 0 → skip 0 (drop (skip (run in_comment s) s) s) ≡ 0 →
        skip 0 (drop (if k then suc (skip 0 s) else if h then suc (skip (run in_comment s) s) else 0) (b ∷ s)) ≡ 0
    go true p h q e f = e
    go false p true q e f = f
    go false p false q e f = rw (p, q, skip)

pub standing-settled : (s : List ℕ) (at : ℕ) → standing s (standing s at) ≡ standing s at
standing-settled s at =
    let k : skip 0 (drop (at + skip 0 (drop at s)) s) ≡ 0 = rw drop-drop at (settled 0 (drop at s)) in
    omega arith
