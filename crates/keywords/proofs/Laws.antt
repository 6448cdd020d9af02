-- What the definitions of keywords say of a table of words, and by a word's first byte.
use Rattle.std.specs.Prelude.{if◌then◌else◌}
use Prim.Native.Nat.{ℕ, zero, suc}
use Prim.Native.Char.{code}
use Prim.Native.String.{String}
use mathlib.Core.Path.{◌≡◌, refl, ap, sym, ◌∙◌}
use mathlib.Core.List.{List, [], ◌∷◌}
use mathlib.Core.Bool.{Bool, true, false, ◌||◌, ◌&&◌, false≢true, or-false}
use lib.ListN.{take, drop}
use lib.Dec.{eqb}
use borrow.Author.Tests.{eqb-true}
use Rattle.scan.specs.Bytes.{begins, between, bytes, every, run, same, some}
use Rattle.blanks.specs.Blanks.{hash, nul, standing}
use Rattle.blanks.proofs.Laws.{standing-settled}
use Rattle.tokens.specs.Tokens.{Next, comma, in_quotes, plain, quote, token_at, token_from}
use Rattle.tokens.proofs.Laws.{token-by}
use Rattle.keywords.specs.Keywords.{barred, first_word, fixed_words, not_taken, opening, word_is}

-- ---- the first byte of a word

-- bytes of different kinds differ
other : (f : ℕ → Bool) (a b : ℕ) → f a ≡ false → f b ≡ true → eqb a b ≡ false
other f a b p q = go (eqb a b) refl
  where
    go : (x : Bool) → eqb a b ≡ x → x ≡ false
    go true e = absurd (false≢true (sym p ∙ ap f (eqb-true a b e) ∙ q))
    go false e = refl

abbrev small : ℕ → Bool
small b = between (code "a") (code "z") b

abbrev starts : List ℕ → Bool
starts [] = false
starts (b ∷ s) = small b

all_small : every (λ k. starts (bytes k)) fixed_words ≡ true
unfolding every bytes
all_small = refl

unlike : (b : ℕ) (w k : List ℕ) → small b ≡ false → starts k ≡ true → same (b ∷ w) k ≡ false
unfolding same
unlike b w [] n e = absurd (false≢true e)
unlike b w (a ∷ k) n e = rw (other small b a n e, same)

unlike-all : (b : ℕ) (w : List ℕ) (ks : List String) → small b ≡ false → every (λ k. starts (bytes k)) ks ≡ true → some (λ k. same (b ∷ w) (bytes k)) ks ≡ false
unfolding some every
unlike-all b w [] n e = refl
unlike-all b w (k ∷ ks) n e = go (starts (bytes k)) (every (λ k. starts (bytes k)) ks) e (unlike b w (bytes k) n) (unlike-all b w ks n)
  where
    go : (x y : Bool) → (x && y) ≡ true → (x ≡ true → same (b ∷ w) (bytes k) ≡ false) → (y ≡ true → some (λ k. same (b ∷ w) (bytes k)) ks ≡ false) →
        (same (b ∷ w) (bytes k) || some (λ k. same (b ∷ w) (bytes k)) ks) ≡ false
    go true true e f g = rw (f refl, g refl)
    go true false e f g = absurd (false≢true e)
    go false y e f g = absurd (false≢true e)

module _ (b : ℕ) (n : small b ≡ false) (c : eqb b (code "^") ≡ false) where
  not_taken_lem : (w : List ℕ) → not_taken (b ∷ w) ≡ false
  unfolding not_taken same bytes
  not_taken_lem w =
      let p : some (λ k. same (b ∷ w) (bytes k)) fixed_words ≡ false = unlike-all b w fixed_words n all_small in
      let q : same (take 1 (b ∷ w)) (bytes "^") ≡ false = rw (c, same) in
      let r : same (take 9 (b ∷ w)) (bytes "priority=") ≡ false = unlike b (take 8 w) (bytes "priority=") n refl in
      rw (p, q, r)

  not-barred : (inside : Bool) (w : List ℕ) → barred inside (b ∷ w) ≡ false
  unfolding bytes
  not-barred true w = rw (not_taken_lem w, unlike b w (bytes "profile") n refl)
  not-barred false w = not_taken_lem w

empty-not-barred : (inside : Bool) → barred inside [] ≡ false
unfolding not_taken some same bytes
empty-not-barred true = refl
empty-not-barred false = refl

-- the first bytes of a text that begins otherwise
part-not-barred : (inside : Bool) (n : ℕ) (s : List ℕ) → opening s ≡ false → barred inside (take n s) ≡ false
part-not-barred inside zero s e = empty-not-barred inside
part-not-barred inside (suc n) [] e = empty-not-barred inside
part-not-barred inside (suc n) (b ∷ s) e = go (small b) refl (eqb b (code "^")) refl e
  where
    go : (x : Bool) → small b ≡ x → (y : Bool) → eqb b (code "^") ≡ y → (x || y) ≡ false → barred inside (b ∷ take n s) ≡ false
    go true p y q e = absurd (false≢true (sym e))
    go false p true q e = absurd (false≢true (sym e))
    go false p false q e = not-barred b p q inside (take n s)

-- a word inside a profile or outside
pub barred-by : (inside : Bool) (w : List ℕ) → (not_taken w || (inside && same w (bytes "profile"))) ≡ barred inside w
barred-by true w = refl
barred-by false w = or-false (not_taken w)

-- ---- the first word at a place, by its first byte

both : (f : Next → Bool) (x : Bool) {a b : Next} → f a ≡ false → f b ≡ false → f (if x then a else b) ≡ false
both f true p q = p
both f false p q = q

none_from : (inside : Bool) (p : ℕ) (s : List ℕ) → opening s ≡ false → word_is (barred inside) (token_from comma p s) ≡ false
unfolding token_from
none_from inside p [] e = refl
none_from inside p (b ∷ s) e =
    both f (eqb b nul) refl
    (both f (eqb b hash) refl
    (both f (eqb b quote) (both f (begins quote (drop (run in_quotes s) s)) refl refl)
    (both f (eqb b comma) (part-not-barred inside 1 (b ∷ s) e)
    (both f (begins quote (drop (run (plain comma) (b ∷ s)) (b ∷ s))) refl (part-not-barred inside (run (plain comma) (b ∷ s)) (b ∷ s) e)))))
  where
    f : Next → Bool
    f = word_is (barred inside)

module _ (inside : Bool) (s : List ℕ) (at p : ℕ) (q : p ≡ standing s at) where
  pub none-at : opening (drop p s) ≡ false → false ≡ first_word (barred inside) s at
  unfolding token_at
  none-at = rw q λ e. sym (none_from inside (standing s at) (drop (standing s at) s) e)

  pub same-token : token_at comma s p ≡ token_at comma s at
  same-token = token-by comma s p at (ap (standing s) q ∙ standing-settled s at)
