-- What the code of words and fronts rests on: a turn of each loop, and the parts of a slice.
use Rattle.std.specs.Prelude.{if◌then◌else◌}
use mathlib.Core.Path.{◌≡◌, refl, ap, ◌∙◌}
use mathlib.Core.List.{List, [], ◌∷◌}
use mathlib.Core.Bool.{Bool, true, false}
use Prim.Native.Nat.{ℕ, zero, suc, ◌+◌, ◌-◌, ◌*◌, ◌^◌, ◌≤◌, ◌<◌}
use Prim.Native.Char.{code}
use native.Mathlib.Omega.{arith}
use native.Mathlib.Nat.{le_of_suc-le-suc, not-suc-le-zero, sub-zero}
use native.Mathlib.Numerals.{add-one}
use lib.ListN.{length, get_or, take, drop, drop_of_length-le}
use lib.Seq.{drop-cons}
use lib.Pow.{pow_mono}
use lib.Dec.{eqb}
use Rattle.scan.specs.Bytes.{span}
use Rattle.front.specs.Front.{plain_after, front_after, front}
use Rattle.words.specs.Words.{word_of}
use Rattle.words.proofs.Laws.{byte_more}

-- ---- a word, from its highest byte down

pub word-down : (s : List ℕ) (n i : ℕ) → 0 < i → i ≤ n → i ≤ length s → word_of (n - (i - 1)) (drop (i - 1) s) ≡ word_of (n - i) (drop i s) * 256 + get_or s (i - 1) 0
unfolding word_of
word-down s n i h l m =
    let k : n - (i - 1) ≡ suc (n - i) = omega arith in
    let j : suc (i - 1) ≡ i = omega arith in
    rw (k, drop-cons s (i - 1) 0 (omega arith), j) (omega arith)

module _ (n i w : ℕ) (h : 0 < i) (l : i ≤ n) (less : w < 2 ^ (8 * (n - i))) where
  pub word_room : n ≤ 8 → w < 2 ^ 56
  word_room m = omega (arith, less, pow_mono {i = 8 * (n - i)} {j = 56} (omega arith))

  pub word_more : (b : ℕ) → b < 256 → w * 256 + b < 2 ^ (8 * (n - (i - 1)))
  word_more b m =
      let k : n - (i - 1) ≡ suc (n - i) = omega arith in
      rw k (omega (arith, less, byte_more (n - i)))

-- no byte stands beyond the end
pub word-short : (k : ℕ) (s : List ℕ) → length s ≤ k → word_of (length s) s ≡ word_of k s
unfolding word_of
word-short zero [] l = refl
word-short zero (b ∷ s) l = absurd (not-suc-le-zero l)
word-short (suc k) [] l = refl
word-short (suc k) (b ∷ s) l = ap (λ (z : ℕ). b + 256 * z) (word-short k s (le_of_suc-le-suc l))

-- ---- the length of a front, and the front as a part of its pattern

pub front_goes : (slash : Bool) (s : List ℕ) (i : ℕ) → i < length s → plain_after slash (get_or s i 0) ≡ true →
    length (front_after slash (drop i s)) ≡ suc (length (front_after (eqb (get_or s i 0) (code "/")) (drop (i + 1) s)))
unfolding front_after
front_goes slash s i l e = rw (add-one, drop-cons s i 0 l, front_after, e)

pub front-stops : (slash : Bool) (s : List ℕ) (i : ℕ) → i < length s → plain_after slash (get_or s i 0) ≡ false → length (front_after slash (drop i s)) ≡ 0
unfolding front_after
front-stops slash s i l e = rw (drop-cons s i 0 l, front_after, e)

pub front_ends : (slash : Bool) (s : List ℕ) (i : ℕ) → length s ≤ i → length (front_after slash (drop i s)) ≡ 0
unfolding front_after
front_ends slash s i l = rw (drop_of_length-le s l)

front-take : (slash : Bool) (s : List ℕ) → take (length (front_after slash s)) s ≡ front_after slash s
unfolding front_after
front-take slash [] = refl
front-take slash (b ∷ s) = go (plain_after slash b) (front-take (eqb b (code "/")) s)
  where
    go : (t : Bool) → take (length (front_after (eqb b (code "/")) s)) s ≡ front_after (eqb b (code "/")) s →
        take (length {A = ℕ} (if t then b ∷ front_after (eqb b (code "/")) s else [])) (b ∷ s) ≡ (if t then b ∷ front_after (eqb b (code "/")) s else [])
    go true h = ap {B = List ℕ} (λ (r : List ℕ). b ∷ r) h
    go false h = refl

pub span-front : (s : List ℕ) → span s 0 (length (front s)) ≡ front s
span-front s = ap (λ (n : ℕ). take n s) (sub-zero (length (front s))) ∙ front-take false s
