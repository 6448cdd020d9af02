-- Where the words differ, the front does not begin the path, and the pattern does not match it.
use mathlib.Core.Path.{◌≡◌, refl, sym, ap, ap₂, ◌∙◌}
use mathlib.Core.List.{List, [], ◌∷◌}
use mathlib.Core.Bool.{Bool, true, false, not, ◌||◌, false≢true}
use Prim.Native.Nat.{ℕ, zero, suc, ◌+◌, ◌*◌, ◌/◌, ◌%◌, ◌^◌, ◌≤◌, min}
use native.Mathlib.Omega.{arith}
use native.Mathlib.Nat.{mul-suc, mul_assoc, mod-add-div, mod-one, add-mul-mod_self_left, min-le_left, min-le_right, le_of_suc-le-suc, not-suc-le-zero}
use lib.ListN.{length, drop}
use lib.Dec.{eqb}
use lib.Bits.{bit_and, and_mask}
use lib.Pow.{pow-add}
use borrow.Author.Tests.{eq-eqb, eqb-true}
use Rattle.scan.proofs.Bools.{and_left, and_right}
use Rattle.pattern.specs.Expansions.{Variable}
use Rattle.matcher.specs.Match.{matches_some, matches_exactly}
use Rattle.front.specs.Front.{beginning, front}
use Rattle.front.proofs.Laws.{front-none, front-none-exactly}
use Rattle.words.specs.Words.{word_of, mask_of, words_of, masked, front_of, is_out}

-- ---- bytes that begin others, and the same bytes as numbers

beginning-drop : (k : ℕ) (f s : List ℕ) → beginning f s ≡ true → beginning (drop k f) (drop k s) ≡ true
unfolding beginning
beginning-drop zero f s h = h
beginning-drop (suc k) [] s h = refl
beginning-drop (suc k) (a ∷ f) [] h = absurd (false≢true h)
beginning-drop (suc k) (a ∷ f) (b ∷ s) h = beginning-drop k f s (and_right (eqb a b) (beginning f s) h)

pub byte_more : (n : ℕ) → 2 ^ (8 * suc n) ≡ 256 * 2 ^ (8 * n)
byte_more n = ap (λ (k : ℕ). 2 ^ k) (mul-suc 8 n) ∙ pow-add 2 (8 * n) 8 ∙ omega arith

-- a byte below a number: cut, it is the byte below the number cut
byte-below : (b x m : ℕ) → (b + 256 * x) % (256 * m) ≡ (b + 256 * (x % m)) % (256 * m)
byte-below b x m =
    let whole : b + 256 * x ≡ b + 256 * (x % m) + 256 * m * (x / m) = omega (arith, mod-add-div x m, mul_assoc 256 m (x / m)) in
    ap (λ (z : ℕ). z % (256 * m)) whole ∙ add-mul-mod_self_left (b + 256 * (x % m)) (256 * m) (x / m)

word-beginning : (n k : ℕ) (f s : List ℕ) → n ≤ k → n ≤ length f → beginning f s ≡ true → word_of k s % 2 ^ (8 * n) ≡ word_of k f % 2 ^ (8 * n)
unfolding word_of beginning
word-beginning zero k f s l m h = mod-one (word_of k s) ∙ sym (mod-one (word_of k f))
word-beginning (suc n) zero f s l m h = absurd (not-suc-le-zero l)
word-beginning (suc n) (suc k) [] s l m h = absurd (not-suc-le-zero m)
word-beginning (suc n) (suc k) (a ∷ f) [] l m h = absurd (false≢true h)
word-beginning (suc n) (suc k) (a ∷ f) (b ∷ s) l m h =
    let same : a ≡ b = eqb-true a b (and_left (eqb a b) (beginning f s) h) in
    let rest : word_of k s % 2 ^ (8 * n) ≡ word_of k f % 2 ^ (8 * n) =
    word-beginning n k f s (le_of_suc-le-suc l) (le_of_suc-le-suc m) (and_right (eqb a b) (beginning f s) h) in
    rw (byte_more n, same, byte-below b (word_of k s) (2 ^ (8 * n)), byte-below b (word_of k f) (2 ^ (8 * n)), rest)

-- ---- under its mask, the word of a path that some bytes begin is theirs

masked_same : (f s : List ℕ) → beginning f s ≡ true → bit_and (word_of 8 s) (mask_of (length f)) ≡ bit_and (word_of 8 f) (mask_of (length f))
unfolding mask_of
masked_same f s h =
    and_mask (word_of 8 s) (8 * min 8 (length f)) ∙ word-beginning (min 8 (length f)) 8 f s (min-le_left 8 (length f)) (min-le_right 8 (length f)) h
    ∙ sym (and_mask (word_of 8 f) (8 * min 8 (length f)))

pub begins-not-out : (f path : List ℕ) → beginning f path ≡ true → is_out (words_of path) (masked f) ≡ false
unfolding is_out words_of masked
begins-not-out f path h =
    ap₂ (λ (a b : Bool). not a || not b) (eq-eqb _ _ (masked_same f path h)) (eq-eqb _ _ (masked_same (drop 8 f) (drop 8 path) (beginning-drop 8 f path h)))

-- ---- what is out is not matched

module _ (pattern path : List ℕ) (out : is_out (words_of path) (front_of pattern) ≡ true) where
  pub out_none : beginning (front pattern) path ≡ false
  out_none = go (beginning (front pattern) path) refl
    where
      go : (t : Bool) → beginning (front pattern) path ≡ t → t ≡ false
      go false e = refl
      go true e = sym out ∙ begins-not-out (front pattern) path e

  pub out-unmatched : (vs : List Variable) → matches_some vs pattern path ≡ false
  out-unmatched vs = front-none vs pattern path out_none

  pub out-unmatched-exactly : (vs : List Variable) → matches_exactly vs pattern path ≡ false
  out-unmatched-exactly vs = front-none-exactly vs pattern path out_none
