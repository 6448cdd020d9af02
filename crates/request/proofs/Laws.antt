-- What the definition of a refused path says at a place.
use Prim.Native.Nat.{ℕ, zero, suc, ◌+◌, ◌-◌, ◌≤◌, ◌<◌}
use Prim.Native.Char.{code}
use mathlib.Core.Path.{◌≡◌, refl, sym, ◌∙◌}
use mathlib.Core.List.{List, [], ◌∷◌}
use mathlib.Core.Bool.{Bool, false, true, not, ◌||◌, ◌&&◌, false≢true, and-false, or-true, or-false, or_assoc}
use lib.ListN.{length, get_or, take, drop, drop_of_length-le}
use lib.Seq.{drop-cons, take_all, take-length, take-nil}
use lib.Dec.{eqb, ltb, eqb-zero-suc, eqb-suc-zero}
use native.Mathlib.Nat.{zero-add, suc-add}
use native.Mathlib.Numerals.{add-one}
use native.Mathlib.Omega.{arith}
use borrow.Author.Tests.{ltb-false}
use Rattle.scan.specs.Bytes.{begins, holds, some, is_empty}
use Rattle.scan.proofs.Laws.{begins-at, begins-end}
use Rattle.blanks.specs.Blanks.{nul}
use Rattle.request.specs.Requests.{bad_path, doubled}

-- what is left of a path holds a NUL or a slash behind a slash, where a slash stands before it, or not
abbrev pub broken_after : Bool → List ℕ → Bool
broken_after slash s = (holds nul s || doubled s) || (slash && begins (code "/") s)

same_test : (b : ℕ) → eqb nul b ≡ eqb b nul
same_test zero = refl
same_test (suc b) = eqb-zero-suc b ∙ sym (eqb-suc-zero b)

module _ (s : List ℕ) (i : ℕ) (slash : Bool) where
  pub broken-more : i < length s →
      broken_after slash (drop i s) ≡ ((eqb (get_or s i 0) nul || (slash && eqb (get_or s i 0) (code "/"))) || broken_after (eqb (get_or s i 0) (code "/")) (drop (i + 1) s))
  unfolding doubled some
  broken-more h =
      let e : i + 1 ≡ suc i = omega arith in
      let t = drop (suc i) s in
      rw (drop-cons s i 0 h, e, same_test (get_or s i 0)) (go (eqb (get_or s i 0) nul) (eqb (get_or s i 0) (code "/")) slash (holds nul t) (doubled t) (begins (code "/") t))
    where
      go : (z t l n d f : Bool) → (((z || n) || ((t && f) || d)) || (l && t)) ≡ ((z || (l && t)) || ((n || d) || (t && f)))
      go true t l n d f = refl
      go false t l true d f = sym (or-true (l && t))
      go false true true false d true = refl
      go false true true false true false = refl
      go false true true false false false = refl
      go false true false false d true = sym (or-true d)
      go false true false false true false = refl
      go false true false false false false = refl
      go false false true false true f = refl
      go false false true false false f = refl
      go false false false false true f = refl
      go false false false false false f = refl

  pub broken-end : length s ≤ i → broken_after slash (drop i s) ≡ false
  unfolding doubled some
  broken-end h = rw (drop_of_length-le s h) (and-false slash)

-- one of the first n bytes is a NUL, or a slash before a slash
unfoldable pub broken_in : ℕ → List ℕ → Bool
broken_in n s = holds nul (take n s) || doubled (take (suc n) s)

pub broken-none : (s : List ℕ) → broken_in 0 s ≡ false
unfolding broken_in doubled some
broken-none [] = refl
broken-none (b ∷ s) = rw and-false

broken-nil : (n : ℕ) → broken_in n [] ≡ false
unfolding broken_in doubled some
broken-nil n = rw (take-nil n)

broken-step : (n b : ℕ) (s : List ℕ) → broken_in (suc n) (b ∷ s) ≡ ((eqb b nul || (eqb b (code "/") && begins (code "/") s)) || broken_in n s)
unfolding broken_in doubled some
broken-step n b s = rw (first s, same_test b) (go (eqb b nul) (eqb b (code "/") && begins (code "/") s) (holds nul (take n s)) (doubled (take (suc n) s)))
  where
    first : (s : List ℕ) → begins (code "/") (take (suc n) s) ≡ begins (code "/") s
    first [] = refl
    first (b ∷ s) = refl

    go : (z t h d : Bool) → ((z || h) || (t || d)) ≡ ((z || t) || (h || d))
    go true t h d = refl
    go false true h d = or-true h
    go false false h d = refl

-- a part after a part
pub broken-add : (n m : ℕ) (s : List ℕ) → broken_in (n + m) s ≡ (broken_in n s || broken_in m (drop n s))
broken-add zero m s = rw (zero-add, broken-none)
broken-add (suc n) m [] = simp broken-nil
broken-add (suc n) m (b ∷ s) = simp (suc-add, broken-step, broken-add n m s, or_assoc)

-- the words of the contracts: a block with the byte behind it, and all bytes
pub broken-block : (s : List ℕ) → broken_in 16 s ≡ (holds nul (take 16 s) || doubled (take 17 s))
unfolding broken_in
broken-block s = refl

-- a block more
pub broken-more_block : (s : List ℕ) (n : ℕ) (w x y : Bool) → x ≡ (w || broken_in n s) → y ≡ (holds nul (take 16 (drop n s)) || doubled (take 17 (drop n s))) →
    (x || y) ≡ (w || broken_in (n + 16) s)
broken-more_block s n w x y e f = rw (broken-add n 16 s, e, f ∙ sym (broken-block (drop n s))) (or_assoc w (broken_in n s) (broken_in 16 (drop n s)))

pub broken-all : (s : List ℕ) → broken_in (length s) s ≡ (holds nul s || doubled s)
unfolding broken_in
broken-all s = rw (take-length s, take_all (suc (length s)) s (omega arith))

-- what a byte with the one behind it says, and the last byte
module _ (s : List ℕ) (i : ℕ) where
  broken-here : i < length s → broken_in 1 (drop i s) ≡ (eqb (get_or s i 0) nul || (eqb (get_or s i 0) (code "/") && begins (code "/") (drop (i + 1) s)))
  broken-here h = rw (add-one, drop-cons s i 0, broken-step, broken-none) (or-false _)

  pub broken-pair : i + 1 < length s → broken_in 1 (drop i s) ≡ (eqb (get_or s i 0) nul || (eqb (get_or s i 0) (code "/") && eqb (get_or s (i + 1) 0) (code "/")))
  broken-pair h = broken-here (omega arith) ∙ rw (begins-at (code "/") s (i + 1) h)

  pub broken-last : i + 1 ≡ length s → broken_in 1 (drop i s) ≡ eqb (get_or s i 0) nul
  broken-last h = broken-here (omega arith) ∙ rw (begins-end (code "/") s (i + 1) (omega arith), and-false) (or-false _)

-- two parts that meet or overlap are the whole
pub broken-cover : (s : List ℕ) (a b m : ℕ) → a ≤ b → b ≤ a + m → a + m ≡ length s → (broken_in m (drop a s) || broken_in b s) ≡ (holds nul s || doubled s)
broken-cover s a b m h k e =
    let p : a + (b - a) ≡ b = omega arith in
    let q : b - a + (a + m - b) ≡ m = omega arith in
    rw (p, q, e, broken-all s) at (parts a (b - a) (a + m - b))
  where
    go : (l k r : Bool) → ((k || r) || (l || k)) ≡ (l || (k || r))
    go true k r = or-true (k || r)
    go false true r = refl
    go false false r = or-false r

    parts : (l k r : ℕ) → (broken_in (k + r) (drop l s) || broken_in (l + k) s) ≡ broken_in (l + (k + r)) s
    parts l k r = rw (broken-add l k s, broken-add l (k + r) s, broken-add k r (drop l s)) (go (broken_in l s) (broken_in k (drop l s)) (broken_in r (drop k (drop l s))))

pub bad-empty : (s : List ℕ) → length s ≡ 0 → bad_path s ≡ true
unfolding bad_path
bad-empty [] e = refl
bad-empty (b ∷ s) e = absurd (omega arith)

pub bad_more : (s : List ℕ) → (length s ≡ 0 → ⊥) → bad_path s ≡ (ltb 4095 (length s) || not (eqb (get_or s 0 0) (code "/")) || (holds nul s || doubled s))
unfolding bad_path
bad_more [] h = absurd (h refl)
bad_more (b ∷ s) h = or_assoc (ltb 4095 (length (b ∷ s)) || not (eqb b (code "/"))) (holds nul (b ∷ s)) (doubled (b ∷ s))

-- a path that is not refused has at most 4,095 bytes
pub path-short : (s : List ℕ) → bad_path s ≡ false → length s ≤ 4095
unfolding bad_path
path-short s e = ltb-false 4095 (length s) (second (is_empty s) (ltb 4095 (length s)) (not (begins (code "/") s)) (holds nul s) (doubled s) e)
  where
    second : (a b c d e : Bool) → (a || b || c || d || e) ≡ false → b ≡ false
    second false false c d e h = refl
    second false true false false false h = h
    second false true false false true h = h
    second false true false true e h = h
    second false true true d e h = h
    second true b c d e h = absurd (false≢true (sym h ∙ top b c d e))
      where
        top : (b c d e : Bool) → (true || b || c || d || e) ≡ true
        top b c d e = refl
