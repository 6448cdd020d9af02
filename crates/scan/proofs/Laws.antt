-- What the definitions of bytes say at a place of a text.
use Prim.Native.Nat.{ℕ, zero, suc, ◌+◌, ◌≤◌, ◌<◌, ◌-◌, min, max}
use mathlib.Core.Path.{◌≡◌, refl, ap, ap₂, sym, ◌∙◌}
use mathlib.Core.List.{List, [], ◌∷◌, ◌++◌}
use mathlib.Core.Bool.{Bool, true, false, ◌&&◌, ◌||◌, or_assoc, false≢true}
use lib.ListN.{length, get_or, take, drop, drop_of_length-le, length-drop, length-take}
use lib.Seq.{drop-cons, take_all, take-nil, drop-drop, take-take}
use lib.Pointwise.{pointwise}
use lib.Dec.{eqb, ltb, eqb-zero-suc, eqb-suc-suc}
use native.Mathlib.Nat.{zero-add, suc-add, not-suc-le-zero, le_of_suc-le-suc}
use native.Mathlib.Numerals.{add-one}
use native.Mathlib.Omega.{arith}
use borrow.Author.Tests.{ltb-true, ltb-false, eq-eqb, ne_eqb, eqb-true, eqb-false}
use Rattle.std.specs.List.{list_all, list_any}
use Rattle.scan.specs.Bytes.{begins, same, holds, some, every, run, span}

eqb-comm : (a b : ℕ) → eqb a b ≡ eqb b a
eqb-comm a b = go (eqb a b) refl
  where
    go : (x : Bool) → eqb a b ≡ x → x ≡ eqb b a
    go true e = sym (eq-eqb b a (sym (eqb-true a b e)))
    go false e = sym (ne_eqb b a λ q. eqb-false a b e (sym q))

-- a byte at a place, and none at the end
module _ (b : ℕ) (s : List ℕ) (i : ℕ) where
  pub begins-at : i < length s → begins b (drop i s) ≡ eqb (get_or s i 0) b
  begins-at h = rw (drop-cons s i 0)

  pub begins-end : length s ≤ i → begins b (drop i s) ≡ false
  begins-end h = rw (drop_of_length-le s h)

pub begins-lt : (b : ℕ) (s : List ℕ) (i : ℕ) → begins b (drop i s) ≡ true → i < length s
begins-lt b s i e = go (ltb i (length s)) refl
  where
    go : (x : Bool) → ltb i (length s) ≡ x → i < length s
    go true k = ltb-true _ _ k
    go false k = absurd (false≢true (sym (begins-end b s i (ltb-false _ _ k)) ∙ e))

-- the same bytes from a place on: one byte more, a byte that differs, the end
module _ (s t : List ℕ) (i : ℕ) where
  pub same_more : i < length s → i < length t → get_or s i 0 ≡ get_or t i 0 → same (drop i s) (drop i t) ≡ same (drop (i + 1) s) (drop (i + 1) t)
  unfolding same
  same_more h k e = rw (add-one, drop-cons s i 0, drop-cons t i 0, eq-eqb _ _ e, same)

  pub same_stop : i < length s → i < length t → (get_or s i 0 ≡ get_or t i 0 → ⊥) → same (drop i s) (drop i t) ≡ false
  unfolding same
  same_stop h k e = rw (drop-cons s i 0, drop-cons t i 0, ne_eqb _ _ e, same)

  pub same_end : length s ≤ i → length t ≤ i → same (drop i s) (drop i t) ≡ true
  unfolding same
  same_end h k = rw (drop_of_length-le s h, drop_of_length-le t k)

pub same_length : (s t : List ℕ) → (length s ≡ length t → ⊥) → same s t ≡ false
unfolding same
same_length [] [] h = absurd (h refl)
same_length [] (b ∷ t) h = refl
same_length (a ∷ s) [] h = refl
same_length (a ∷ s) (b ∷ t) h = go (eqb a b) (same_length s t λ e. h (ap suc e))
  where
    go : (x : Bool) → same s t ≡ false → elim x as (λ _. Bool) [ true ↦ same s t | false ↦ false ] ≡ false
    go true e = e
    go false e = refl

-- a run at a place: one byte more, a byte of another kind, the end
module _ (p : ℕ → Bool) (s : List ℕ) (i : ℕ) where
  pub run_more : i < length s → p (get_or s i 0) ≡ true → run p (drop i s) ≡ suc (run p (drop (i + 1) s))
  unfolding run
  run_more h e = rw (add-one, drop-cons s i 0, e, run)

  pub run-stop : i < length s → p (get_or s i 0) ≡ false → run p (drop i s) ≡ 0
  unfolding run
  run-stop h e = rw (drop-cons s i 0, e, run)

  pub run_end : length s ≤ i → run p (drop i s) ≡ 0
  unfolding run
  run_end h = rw (drop_of_length-le s h)

-- a run that goes on from a place to the end, where that is not before the place
pub run_whole : (p : ℕ → Bool) (s : List ℕ) (at i : ℕ) → length s ≤ i → (at ≤ length s → i ≤ length s) → i + run p (drop i s) ≡ at + run p (drop at s) →
    max at (length s) ≡ at + run p (drop at s)
run_whole p s at i h f e = go (ltb (length s) at) refl
  where
    go : (x : Bool) → ltb (length s) at ≡ x → max at (length s) ≡ at + run p (drop at s)
    go true q = omega (arith, ltb-true (length s) at q, run_end p s at (omega (arith, ltb-true (length s) at q)))
    go false q = omega (arith, ltb-false (length s) at q, run_end p s i h, f (omega (arith, ltb-false (length s) at q)), e)

-- a run ends in the text
pub run-le : (p : ℕ → Bool) (s : List ℕ) → run p s ≤ length s
unfolding run
run-le p [] = omega arith
run-le p (b ∷ s) = go (p b) (run-le p s)
  where
    go : (x : Bool) → run p s ≤ length s → elim x as (λ _. ℕ) [ true ↦ suc (run p s) | false ↦ 0 ] ≤ suc (length s)
    go true h = omega arith
    go false h = omega arith

pub run_inside : (p : ℕ → Bool) (s : List ℕ) (i : ℕ) → i ≤ length s → i + run p (drop i s) ≤ length s
run_inside p s i h = omega (arith, run-le p (drop i s), length-drop i s)

-- every byte is of a kind when the run of it is the whole text
pub every-run : (p : ℕ → Bool) (s : List ℕ) → every p s ≡ eqb (run p s) (length s)
unfolding every run
every-run p [] = refl
every-run p (b ∷ s) = go (p b) (every-run p s)
  where
    go : (x : Bool) → every p s ≡ eqb (run p s) (length s) → (x && every p s) ≡ eqb (elim x as (λ _. ℕ) [ true ↦ suc (run p s) | false ↦ 0 ]) (suc (length s))
    go true e = e ∙ sym (eqb-suc-suc (run p s) (length s))
    go false e = sym (eqb-zero-suc (length s))

pub every-from : (p : ℕ → Bool) (s : List ℕ) (i : ℕ) → i ≤ length s → every p (drop i s) ≡ eqb (i + run p (drop i s)) (length s)
every-from p s i h = every-run p (drop i s) ∙ go (eqb (run p (drop i s)) (length (drop i s))) refl
  where
    go : (x : Bool) → eqb (run p (drop i s)) (length (drop i s)) ≡ x → x ≡ eqb (i + run p (drop i s)) (length s)
    go true e = sym (eq-eqb (i + run p (drop i s)) (length s) (omega (arith, length-drop i s, eqb-true (run p (drop i s)) (length (drop i s)) e)))
    go false e = sym (ne_eqb (i + run p (drop i s)) (length s) λ q. eqb-false (run p (drop i s)) (length (drop i s)) e (omega (arith, length-drop i s)))

-- a byte looked for from a place on: it stands there, it does not, the end
module _ (a : ℕ) (s : List ℕ) (i : ℕ) where
  pub holds-here : i < length s → get_or s i 0 ≡ a → holds a (drop i s) ≡ true
  unfolding some
  holds-here h e = rw (drop-cons s i 0, eq-eqb a (get_or s i 0) (sym e), some)

  pub holds_later : i < length s → (get_or s i 0 ≡ a → ⊥) → holds a (drop i s) ≡ holds a (drop (i + 1) s)
  unfolding some
  holds_later h e = rw (add-one, drop-cons s i 0, ne_eqb a (get_or s i 0) (λ q. e (sym q)), some)

  pub holds-end : length s ≤ i → holds a (drop i s) ≡ false
  unfolding some
  holds-end h = rw (drop_of_length-le s h)

-- a part of a text, by its places and by its length
pub part : (a n : ℕ) (s : List ℕ) → drop a (take (a + n) s) ≡ take n (drop a s)
part zero n s = rw zero-add
part (suc a) n [] = rw (suc-add, take-nil n)
part (suc a) n (b ∷ s) = rw suc-add (part a n s)

-- the same bytes are equal lists
pub same-eq : (s t : List ℕ) → same s t ≡ true → s ≡ t
unfolding same
same-eq [] [] e = refl
same-eq [] (b ∷ t) e = absurd (false≢true e)
same-eq (a ∷ s) [] e = absurd (false≢true e)
same-eq (a ∷ s) (b ∷ t) e = go (eqb a b) refl (λ h. same-eq s t h) e
  where
    go : (x : Bool) → eqb a b ≡ x → (same s t ≡ true → s ≡ t) → (elim x as (λ _. Bool) [ true ↦ same s t | false ↦ false ]) ≡ true → a ∷ s ≡ b ∷ t
    go true q f h = ap₂ ◌∷◌ (eqb-true a b q) (f h)
    go false q f h = absurd (false≢true h)

pub same_self : (s : List ℕ) → same s s ≡ true
unfolding same
same_self [] = refl
same_self (a ∷ s) = rw (eq-eqb a a refl, same) (same_self s)

-- one list after another
pub some-append : {A : Type 0} (p : A → Bool) (xs ys : List A) → some p (xs ++ ys) ≡ (some p xs || some p ys)
unfolding some
some-append p [] ys = refl
some-append p (x ∷ xs) ys = ap (λ (b : Bool). p x || b) (some-append p xs ys) ∙ sym (or_assoc (p x) (some p xs) (some p ys))

-- a run that ends inside the first m bytes is the same run in all of them
pub run_take : (p : ℕ → Bool) (m : ℕ) (l : List ℕ) → run p (take m l) < length (take m l) → run p l ≡ run p (take m l)
unfolding run
run_take p zero l h = absurd (not-suc-le-zero h)
run_take p (suc m) [] h = refl
run_take p (suc m) (b ∷ l) h = go (p b) (λ k. run_take p m l k) h
  where
    go : (x : Bool) → (run p (take m l) < length (take m l) → run p l ≡ run p (take m l)) →
        (elim x as (λ _. ℕ) [ true ↦ suc (run p (take m l)) | false ↦ 0 ]) < suc (length (take m l)) →
        ◌≡◌ {A = ℕ} (elim x as (λ _. ℕ) [ true ↦ suc (run p l) | false ↦ 0 ]) (elim x as (λ _. ℕ) [ true ↦ suc (run p (take m l)) | false ↦ 0 ])
    go true f k = ap suc (f (le_of_suc-le-suc k))
    go false f k = refl

-- ---- parts of a text

pub drop-take : {A : Type 0} (k m : ℕ) (l : List A) → drop k (take m l) ≡ take (m - k) (drop k l)
drop-take zero m l = let e : m - 0 ≡ m = omega arith in rw e
drop-take (suc k) zero l = let e : 0 - suc k ≡ 0 = omega arith in rw e
drop-take (suc k) (suc m) [] = sym (take-nil (suc m - suc k))
drop-take (suc k) (suc m) (x ∷ l) = let e : suc m - suc k ≡ m - k = omega arith in rw e (drop-take k m l)

pub length-span : (text : List ℕ) (a e : ℕ) → length (span text a e) ≡ min (e - a) (length text - a)
length-span text a e = length-take (e - a) (drop a text) ∙ ap (min (e - a)) (length-drop a text)

-- a place of a part is a place of the text
pub span-within : (text : List ℕ) (a e i : ℕ) → i < length (span text a e) → a + i < length text
span-within text a e i h = omega (arith, length-span text a e)

-- what follows a place of a part
pub drop-span : (text : List ℕ) (a e i : ℕ) → drop i (span text a e) ≡ span text (a + i) e
drop-span text a e i =
    let n : e - a - i ≡ e - (a + i) = omega arith in
    drop-take i (e - a) (drop a text) ∙ ap (take (e - a - i)) (drop-drop i a text) ∙ ap (λ (k : ℕ). take k (drop (a + i) text)) n

-- a part of a part
pub span-span : (text : List ℕ) (a e i j : ℕ) → j ≤ length (span text a e) → span (span text a e) i j ≡ span text (a + i) (a + j)
span-span text a e i j h =
    let n : a + j - (a + i) ≡ j - i = omega arith in
    let b : j ≤ e - a = omega (arith, length-take (e - a) (drop a text)) in
    rw n
    (ap (take (j - i)) (drop-take i (e - a) (drop a text))
    ∙ take-take (j - i) (e - a - i) (drop i (drop a text)) (omega arith)
    ∙ ap (take (j - i)) (drop-drop i a text))

-- what stands from a place on
pub span_rest : (s : List ℕ) (k : ℕ) → span s k (length s) ≡ drop k s
span_rest s k = take_all (length s - k) (drop k s) (omega (arith, length-drop k s))

pub no_length : {A : Type 0} (l : List A) → length l ≡ 0 → l ≡ []
no_length [] e = refl
no_length (x ∷ l) e = absurd (omega arith)

-- the library's words: of bytes looked for, of bytes compared, and of the first byte that is not of a kind
pub holds-any : (a : ℕ) (s : List ℕ) → holds a s ≡ list_any (λ y. eqb y a) s
unfolding some
holds-any a [] = refl
holds-any a (b ∷ s) = ap₂ ◌||◌ (eqb-comm a b) (holds-any a s)

pub same-pointwise : (s t : List ℕ) → same s t ≡ pointwise eqb s t
unfolding same
same-pointwise [] [] = refl
same-pointwise [] (b ∷ t) = refl
same-pointwise (a ∷ s) [] = refl
same-pointwise (a ∷ s) (b ∷ t) = go (eqb a b) (same-pointwise s t)
  where
    go : (x : Bool) → same s t ≡ pointwise eqb s t → elim x as (λ _. Bool) [ true ↦ same s t | false ↦ false ] ≡ (x && pointwise eqb s t)
    go true e = e
    go false e = refl

-- every and some are the library's words
pub every_all : {A : Type 0} (p : A → Bool) (xs : List A) → every p xs ≡ list_all p xs
unfolding every
every_all p [] = refl
every_all p (x ∷ xs) = ap (λ (b : Bool). p x && b) (every_all p xs)

pub some_any : {A : Type 0} (p : A → Bool) (xs : List A) → some p xs ≡ list_any p xs
unfolding some
some_any p [] = refl
some_any p (x ∷ xs) = ap (λ (b : Bool). p x || b) (some_any p xs)

-- a word is compared from its own side too
pub same-turned : (s t : List ℕ) → same s t ≡ pointwise eqb t s
unfolding same
same-turned [] [] = refl
same-turned [] (b ∷ t) = refl
same-turned (a ∷ s) [] = refl
same-turned (a ∷ s) (b ∷ t) = go (eqb a b) (eqb b a) (eqb-comm a b) (same-turned s t)
  where
    go : (x y : Bool) → x ≡ y → same s t ≡ pointwise eqb t s → elim x as (λ _. Bool) [ true ↦ same s t | false ↦ false ] ≡ (y && pointwise eqb t s)
    go true y e f = rw (← e) f
    go false y e f = rw (← e)
