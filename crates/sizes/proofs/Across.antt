-- Neighbours as lists of expansions: how many there are, and one by its number.
use Prim.Native.Nat.{ℕ, zero, suc, ◌+◌, ◌*◌, ◌-◌, ◌/◌, ◌%◌, ◌≤◌, ◌<◌, min}
use mathlib.Core.Path.{◌≡◌, refl, sym, ap, ap₂, ◌∙◌}
use mathlib.Core.List.{List, [], ◌∷◌, ◌++◌, map, append-nil}
use mathlib.Core.Bool.{Bool, true, false}
use lib.ListN.{length, get_or, length-append, length-map, get_or-append}
use lib.Seq.{get_or-append-add}
use lib.Dec.{leb}
use borrow.Author.Tests.{leb-true, leb-false}
use native.Mathlib.Nat.{mul-zero, zero-mul, suc-mul, mul-suc, mul_comm, add_comm, zero-add, not-suc-le-zero, le_of_suc-le-suc, mod-lt, div-lt_iff_lt-mul, div-add-mod', min-eq_left, min-eq_right, mod-eq_of_lt, div-eq_of_lt, div-le_self, le_trans}
use native.Mathlib.Omega.{arith}
use Rattle.pattern.specs.Pieces.{Piece}
use Rattle.pattern.specs.Expansions.{across}

pub length-across : (xs ts : List (List Piece)) → length (across xs ts) ≡ length xs * length ts
unfolding across
length-across xs [] = sym (mul-zero (length xs))
length-across xs (t ∷ ts) =
    length-append (map (λ x. x ++ t) xs) (across xs ts)
    ∙ ap₂ ◌+◌ (length-map xs (λ x. x ++ t)) (length-across xs ts)
    ∙ sym (mul-suc (length xs) (length ts) ∙ add_comm (length xs * length ts) (length xs))

-- ---- with one expansion of no piece, and with none

map-nil : (xs : List (List Piece)) → map (λ x. x ++ []) xs ≡ xs
map-nil [] = refl
map-nil (x ∷ xs) = ap₂ (λ (u : List Piece) (l : List (List Piece)). u ∷ l) (append-nil x) (map-nil xs)

pub across-one : (xs : List (List Piece)) → across xs ([] ∷ []) ≡ xs
unfolding across
across-one xs = append-nil (map (λ x. x ++ []) xs) ∙ map-nil xs

pub nil-across : (ts : List (List Piece)) → across [] ts ≡ []
unfolding across
nil-across [] = refl
nil-across (t ∷ ts) = nil-across ts

pub across-nil : (xs : List (List Piece)) → across xs [] ≡ []
unfolding across
across-nil xs = refl

-- ---- an expansion by its number: the first choice is the low digit

get_d-map-lt : {A B : Type 0} (f : A → B) (l : List A) (n : ℕ) (d : A) (d' : B) → n < length l → get_or (map f l) n d' ≡ f (get_or l n d)
get_d-map-lt f [] n d d' h = absurd (not-suc-le-zero h)
get_d-map-lt f (x ∷ xs) zero d d' h = refl
get_d-map-lt f (x ∷ xs) (suc n) d d' h = get_d-map-lt f xs n d d' (le_of_suc-le-suc h)

get_d-across : (xs ts : List (List Piece)) (q r : ℕ) → q < length ts → r < length xs → get_or (across xs ts) (q * length xs + r) [] ≡ get_or xs r [] ++ get_or ts q []
unfolding across
get_d-across xs [] q r hq hr = absurd (not-suc-le-zero hq)
get_d-across xs (t ∷ ts) zero r hq hr =
    rw (zero-mul, zero-add, get_or-append (map (λ x. x ++ t) xs) (across xs ts) [] r (rw length-map hr)) (get_d-map-lt (λ x. x ++ t) xs r [] [] hr)
get_d-across xs (t ∷ ts) (suc q) r hq hr =
    let e : suc q * length xs + r ≡ length (map (λ x. x ++ t) xs) + (q * length xs + r) =
    rw (length-map, suc-mul) (omega arith) in
    rw (e, get_or-append-add) (get_d-across xs ts q r (le_of_suc-le-suc hq) hr)

pos_of : (n c e : ℕ) → e < n * c → 0 < n
pos_of zero c e h = absurd (not-suc-le-zero (rw zero-mul at h))
pos_of (suc n) c e h = omega arith

-- how the number e of an expansion splits, c being the number of choices of the first
pub record Split (xs ts : List (List Piece)) (e c : ℕ) : Type 0 where
  pub positive : 0 < c
  pub low : e % c < length xs
  pub low_small : e % c < 257
  pub high : e / c < length ts
  pub high_small : e / c < 257
  pub whole : get_or (across xs ts) e [] ≡ get_or xs (e % c) [] ++ get_or ts (e / c) []

-- up to 257 choices are told apart, which is enough for a number below 257
same_digits : (n e : ℕ) → e < 257 → (e % min 257 n ≡ e % n) × (e / min 257 n ≡ e / n)
same_digits n e h = go (leb n 257) refl
  where
    go : (x : Bool) → leb n 257 ≡ x → (e % min 257 n ≡ e % n) × (e / min 257 n ≡ e / n)
    go true p = rw (min-eq_right (leb-true n 257 p)) (refl, refl)
    go false p =
        let l : 257 ≤ n = omega (arith, leb-false n 257 p) in
        rw (min-eq_left l) (mod-eq_of_lt h ∙ sym (mod-eq_of_lt (le_trans h l)), div-eq_of_lt h ∙ sym (div-eq_of_lt (le_trans h l)))

pub split : (xs ts : List (List Piece)) (e c : ℕ) → c ≡ min 257 (length xs) → e < 257 → e < length (across xs ts) → Split xs ts e c
split xs ts e c k small h =
    let b : e < length xs * length ts = rw (length-across xs ts) at h in
    let pos : 0 < length xs = pos_of (length xs) (length ts) e b in
    let q : e / length xs < length ts = (div-lt_iff_lt-mul pos).1 (rw mul_comm at b) in
    let m : e % c ≡ e % length xs = rw k (same_digits (length xs) e small).0 in
    let d : e / c ≡ e / length xs = rw k (same_digits (length xs) e small).1 in
    let p : 0 < c = omega arith in
    let r : e % c < c = mod-lt e p in
    record {
      positive = p;
      low = rw m (mod-lt e pos);
      low_small = omega arith;
      high = rw d q;
      high_small = omega (arith, div-le_self e c);
      whole =
          rw (m, d)
          (ap (λ (i : ℕ). get_or (across xs ts) i []) (sym (div-add-mod' e (length xs)))
          ∙ get_d-across xs ts (e / length xs) (e % length xs) q (mod-lt e pos));
    }

-- a number among the expansions xs and then ys, c being the number of xs
module _ (xs ys : List (List Piece)) (d c : ℕ) (k : c ≡ min 257 (length xs)) where
  pub here : d < c → (d < length xs) × (get_or (xs ++ ys) d [] ≡ get_or xs d [])
  here h = let l : d < length xs = omega arith in (l, get_or-append xs ys [] d l)

  pub there : c ≤ d → d < 257 → d < length (xs ++ ys) → (d - c < length ys) × (get_or (xs ++ ys) d [] ≡ get_or ys (d - c) [])
  there h s l =
      let e : c ≡ length xs = omega arith in
      let g : d ≡ length xs + (d - c) = omega arith in
      (omega (arith, length-append xs ys), ap (λ (i : ℕ). get_or (xs ++ ys) i []) g ∙ get_or-append-add xs ys (d - c) [])
