-- The size of neighbours and of choices of two kinds is made of their sizes; what is refused is a test on the size.
use Prim.Native.Nat.{ℕ, zero, suc, ◌+◌, ◌*◌, ◌≤◌, ◌<◌, min, max}
use mathlib.Core.Path.{◌≡◌, refl, sym, ap, ap₂, ◌∙◌}
use mathlib.Core.List.{List, [], ◌∷◌, ◌++◌, map}
use mathlib.Core.Bool.{Bool, true, false, not, ◌||◌, ◌&&◌}
use lib.ListN.{length, length-append}
use lib.Dec.{eqb, leb, ltb}
use borrow.Author.Tests.{ne_eqb, leb-true, leb-false, lt-ltb, le-ltb, ltb-true, ltb-false}
use native.Mathlib.Nat.{mul-zero, zero-mul, min-eq_left, min-eq_right, mul-le-mul_left, mul_comm, mul-one, le_trans, min-zero}
use native.Mathlib.Omega.{arith}
use Rattle.scan.specs.Bytes.{every, some}
use Rattle.pattern.specs.Pieces.{Piece}
use Rattle.pattern.specs.Expansions.{Variable, across, longest, is_slash, begins_slash, expansions}
use Rattle.pattern.specs.Codes.{decode}
use Rattle.pattern.specs.Faults.{too_many, rooted}
use Rattle.pattern.proofs.Codes.{decode-byte, decode-place}
use Rattle.sizes.specs.declared.Size.{Size}
use Rattle.sizes.specs.Sizes.{over_size, rooted_size, is_nil, nil_or_slash, size_of, limit_of, times_of, plus_of, no_size, nil_size}
use Rattle.sizes.proofs.Across.{length-across, nil-across, across-nil}
use Rattle.sizes.proofs.Choices.{count-length}

-- ---- the most pieces

max-add : (a b c : ℕ) → max (a + b) (a + c) ≡ a + max b c
max-add a b c = omega arith

longest-append : (a b : List (List Piece)) → longest (a ++ b) ≡ max (longest a) (longest b)
unfolding longest
longest-append [] b = omega arith
longest-append (x ∷ a) b = omega (arith, longest-append a b)

longest-map : (t x : List Piece) (xs : List (List Piece)) → longest (map (λ u. u ++ t) (x ∷ xs)) ≡ longest (x ∷ xs) + length t
unfolding longest
longest-map t x [] = omega (arith, length-append x t)
longest-map t x (y ∷ xs) = omega (arith, length-append x t, longest-map t y xs)

longest-across : (x t : List Piece) (xs ts : List (List Piece)) → longest (across (x ∷ xs) (t ∷ ts)) ≡ longest (x ∷ xs) + longest (t ∷ ts)
unfolding longest across
longest-across x t xs [] = omega (arith, longest-append (map (λ u. u ++ t) (x ∷ xs)) [], longest-map t x xs)
longest-across x t xs (u ∷ ts) =
    longest-append (map (λ u. u ++ t) (x ∷ xs)) (across (x ∷ xs) (u ∷ ts))
    ∙ ap₂ max (longest-map t x xs) (longest-across x u xs ts)
    ∙ max-add (longest (x ∷ xs)) (length t) (longest (u ∷ ts))

-- ---- no piece, and a first /

pub or_assoc : (a b c : Bool) → (a || b) || c ≡ a || (b || c)
or_assoc true b c = refl
or_assoc false b c = refl

pub and_assoc : (a b c : Bool) → (a && b) && c ≡ a && (b && c)
and_assoc true b c = refl
and_assoc false b c = refl

some-append : {A : Type 0} (p : A → Bool) (a b : List A) → some p (a ++ b) ≡ some p a || some p b
unfolding some
some-append p [] b = refl
some-append p (x ∷ a) b = ap (λ (z : Bool). p x || z) (some-append p a b) ∙ sym (or_assoc (p x) (some p a) (some p b))

every_append : {A : Type 0} (p : A → Bool) (a b : List A) → every p (a ++ b) ≡ every p a && every p b
unfolding every
every_append p [] b = refl
every_append p (x ∷ a) b = ap (λ (z : Bool). p x && z) (every_append p a b) ∙ sym (and_assoc (p x) (every p a) (every p b))

empty-map : (t : List Piece) (xs : List (List Piece)) → some is_nil (map (λ x. x ++ t) xs) ≡ some is_nil xs && is_nil t
unfolding some
empty-map t [] = refl
empty-map [] ([] ∷ xs) = refl
empty-map (p ∷ t) ([] ∷ xs) = empty-map (p ∷ t) xs ∙ never (some is_nil xs)
  where
    never : (a : Bool) → a && false ≡ false
    never true = refl
    never false = refl
empty-map t ((q ∷ x) ∷ xs) = empty-map t xs

empty-across : (xs ts : List (List Piece)) → some is_nil (across xs ts) ≡ some is_nil xs && some is_nil ts
unfolding across some
empty-across xs [] = never (some is_nil xs)
  where
    never : (a : Bool) → false ≡ a && false
    never true = refl
    never false = refl
empty-across xs (t ∷ ts) =
    some-append is_nil (map (λ x. x ++ t) xs) (across xs ts)
    ∙ ap₂ (λ (a b : Bool). a || b) (empty-map t xs) (empty-across xs ts)
    ∙ parts (some is_nil xs) (is_nil t) (some is_nil ts)
  where
    parts : (a b c : Bool) → (a && b) || (a && c) ≡ a && (b || c)
    parts true b c = refl
    parts false b c = refl

slash-map : (t : List Piece) (xs : List (List Piece)) →
    every nil_or_slash (map (λ x. x ++ t) xs) ≡ every nil_or_slash xs && (not (some is_nil xs) || nil_or_slash t)
unfolding every some
slash-map t [] = refl
slash-map t ([] ∷ xs) = ap (λ (z : Bool). nil_or_slash t && z) (slash-map t xs) ∙ twice (nil_or_slash t) (every nil_or_slash xs) (some is_nil xs)
  where
    twice : (o a e : Bool) → o && (a && (not e || o)) ≡ a && o
    twice true true true = refl
    twice true true false = refl
    twice true false e = refl
    twice false true e = refl
    twice false false e = refl
slash-map t ((q ∷ x) ∷ xs) = ap (λ (z : Bool). is_slash q && z) (slash-map t xs) ∙ sym (and_assoc (is_slash q) (every nil_or_slash xs) (not (some is_nil xs) || nil_or_slash t))

slash-across : (t : List Piece) (xs ts : List (List Piece)) →
    every nil_or_slash (across xs (t ∷ ts)) ≡ every nil_or_slash xs && (not (some is_nil xs) || every nil_or_slash (t ∷ ts))
unfolding across every
slash-across t xs [] =
    every_append nil_or_slash (map (λ x. x ++ t) xs) [] ∙ ap (λ (z : Bool). z && true) (slash-map t xs) ∙ one (every nil_or_slash xs) (not (some is_nil xs)) (nil_or_slash t)
  where
    one : (a n o : Bool) → (a && (n || o)) && true ≡ a && (n || (o && true))
    one true true o = refl
    one true false o = refl
    one false n o = refl
slash-across t xs (u ∷ ts) =
    every_append nil_or_slash (map (λ x. x ++ t) xs) (across xs (u ∷ ts))
    ∙ ap₂ (λ (a b : Bool). a && b) (slash-map t xs) (slash-across u xs ts)
    ∙ both (every nil_or_slash xs) (not (some is_nil xs)) (nil_or_slash t) (every nil_or_slash (u ∷ ts))
  where
    both : (a n o b : Bool) → (a && (n || o)) && (a && (n || b)) ≡ a && (n || (o && b))
    both true true o b = refl
    both true false o b = refl
    both false n o b = refl

-- ---- numbers up to a bound

pub min-twice : (k n : ℕ) → min k (min k n) ≡ min k n
min-twice k n = omega arith

sat-add : (k n m : ℕ) → min k (min k n + min k m) ≡ min k (n + m)
sat-add k n m = omega arith

sat-max : (k n m : ℕ) → max (min k n) (min k m) ≡ min k (max n m)
sat-max k n m = omega arith

pub le-mul : (k j : ℕ) → 1 ≤ j → k ≤ k * j
le-mul k j h = rw mul-one at (mul-le-mul_left k h)

big : (k n m : ℕ) → 1 ≤ k → k ≤ n → min k (k * min k m) ≡ min k (n * m)
big k n zero o h = rw (min-zero k, mul-zero k, mul-zero n)
big k n (suc m) o h =
    min-eq_left (le-mul k (min k (suc m)) (omega arith)) ∙ sym (min-eq_left (le_trans h (le-mul n (suc m) (omega arith))))

pub sat-mul : (k n m : ℕ) → 1 ≤ k → min k (min k n * min k m) ≡ min k (n * m)
sat-mul k n m o = go (leb n k) (leb m k) refl refl
  where
    go : (x y : Bool) → leb n k ≡ x → leb m k ≡ y → min k (min k n * min k m) ≡ min k (n * m)
    go true true a b = rw (min-eq_right (leb-true n k a), min-eq_right (leb-true m k b))
    go false y a b = let h : k ≤ n = omega (arith, leb-false n k a) in rw (min-eq_left h) (big k n m o h)
    go true false a b = let h : k ≤ m = omega (arith, leb-false m k b) in rw (min-eq_left h, mul_comm (min k n) k, mul_comm n m) (big k m n o h)

-- ---- sizes

pub size-eq : {a b c d : ℕ} {e f g h : Bool} → a ≡ b → c ≡ d → e ≡ f → g ≡ h →
    ◌≡◌ {A = Size} (record { count = a; longest = c; empty = e; slashed = g }) (record { count = b; longest = d; empty = f; slashed = h })
size-eq p q r s = cc

-- the number of choices side by side
pairs : List (List Piece) → List (List Piece) → ℕ
pairs xs ts = min 257 (min 257 (length xs)) * min 257 (min 257 (length ts))

pairs-some : (x t : List Piece) (xs ts : List (List Piece)) → pairs (x ∷ xs) (t ∷ ts) ≡ 0 → ⊥
unfolding pairs
pairs-some x t xs ts e =
    let p : 1 ≤ min 257 (min 257 (length (x ∷ xs))) = omega arith in
    let q : 1 ≤ min 257 (min 257 (length (t ∷ ts))) = omega arith in
    let n : 1 ≤ min 257 (min 257 (length (x ∷ xs))) * min 257 (min 257 (length (t ∷ ts))) = le_trans p (le-mul _ _ q) in
    omega arith

times-longest : (xs ts : List (List Piece)) →
    limit_of (pairs xs ts) (min 1025 (min 1025 (longest xs)) + min 1025 (min 1025 (longest ts))) ≡ min 1025 (longest (across xs ts))
unfolding longest pairs
times-longest [] ts = rw (nil-across ts, zero-mul)
times-longest (x ∷ xs) [] = rw (mul-zero, across-nil (x ∷ xs))
times-longest (x ∷ xs) (t ∷ ts) =
    rw (
      ne_eqb (pairs (x ∷ xs) (t ∷ ts)) 0 (pairs-some x t xs ts),
      longest-across x t xs ts,
      min-twice 1025 (longest (x ∷ xs)),
      min-twice 1025 (longest (t ∷ ts)),
    )
    (sat-add 1025 (longest (x ∷ xs)) (longest (t ∷ ts)))

times-slashed : (xs ts : List (List Piece)) →
    eqb (pairs xs ts) 0 || (every nil_or_slash xs && (not (some is_nil xs) || every nil_or_slash ts)) ≡ every nil_or_slash (across xs ts)
unfolding pairs every some
times-slashed [] ts = rw (nil-across ts, zero-mul)
times-slashed (x ∷ xs) [] = rw (mul-zero, across-nil (x ∷ xs))
times-slashed (x ∷ xs) (t ∷ ts) = rw (ne_eqb (pairs (x ∷ xs) (t ∷ ts)) 0 (pairs-some x t xs ts)) (sym (slash-across t (x ∷ xs) ts))

pub size-across : (xs ts : List (List Piece)) → times_of (size_of xs) (size_of ts) ≡ size_of (across xs ts)
unfolding times_of size_of pairs
size-across xs ts =
    size-eq (rw (length-across xs ts, min-twice 257 (length xs), min-twice 257 (length ts)) (sat-mul 257 (length xs) (length ts) (omega arith)))
    (times-longest xs ts) (sym (empty-across xs ts)) (times-slashed xs ts)

pub size-append : (xs ys : List (List Piece)) → plus_of (size_of xs) (size_of ys) ≡ size_of (xs ++ ys)
unfolding plus_of size_of
size-append xs ys =
    size-eq (rw (length-append xs ys, min-twice 257 (length xs), min-twice 257 (length ys)) (sat-add 257 (length xs) (length ys)))
    (rw (longest-append xs ys, min-twice 1025 (longest xs), min-twice 1025 (longest ys)) (sat-max 1025 (longest xs) (longest ys)))
    (sym (some-append is_nil xs ys)) (sym (every_append nil_or_slash xs ys))

pub size-count : {z : Size} (xs : List (List Piece)) → z ≡ size_of xs → z.count ≡ min 257 (length xs)
unfolding size_of
size-count xs e = ap (λ (z : Size). z.count) e

pub size_none : size_of [] ≡ no_size
unfolding size_of longest some every
size_none = refl

pub size-nil : size_of ([] ∷ []) ≡ nil_size
unfolding size_of longest some every
size-nil = refl

-- a whole expansion, of one piece or more
pub size-one : (p : Piece) (x : List Piece) →
    size_of ((p ∷ x) ∷ []) ≡ record { count = 1; longest = min 1025 (suc (length x)); empty = false; slashed = is_slash p }
unfolding size_of longest some every
size-one p x = size-eq refl (omega arith) refl (last (is_slash p))
  where
    last : (a : Bool) → a && true ≡ a
    last true = refl
    last false = refl

pub size-piece : (p : Piece) → size_of ((p ∷ []) ∷ []) ≡ record { count = 1; longest = 1; empty = false; slashed = is_slash p }
size-piece p = size-one p []

-- ---- a first / by a piece's code

pub slash-byte : (text : List ℕ) (b : ℕ) → b < 256 → eqb b 47 ≡ is_slash (decode text b)
slash-byte text b h = ap is_slash (sym (decode-byte text b h))

pub slash-class : (text : List ℕ) (p : ℕ) → false ≡ is_slash (decode text (65536 + p))
slash-class text p = ap is_slash (sym (decode-place text p))

-- ---- what is refused, by the size

ltb-min : (k n : ℕ) → ltb k (min (suc k) n) ≡ ltb k n
ltb-min k n = go (ltb k n) refl
  where
    go : (x : Bool) → ltb k n ≡ x → ltb k (min (suc k) n) ≡ ltb k n
    go true e = lt-ltb k (min (suc k) n) (omega (arith, ltb-true k n e)) ∙ sym e
    go false e = le-ltb k (min (suc k) n) (omega (arith, ltb-false k n e)) ∙ sym e

pub too_many-size : (vs : List Variable) (s : List ℕ) → too_many vs s ≡ over_size (size_of (expansions vs s))
unfolding too_many size_of
too_many-size vs s =
    rw (count-length vs s, too_many, ltb-min 256 (length (expansions vs s)), ltb-min 1024 (longest (expansions vs s)))
    (go (ltb 256 (length (expansions vs s))) (ltb 1024 (longest (expansions vs s))))
  where
    go : (a b : Bool) → elim a as (λ _. Bool) [ true ↦ true | false ↦ b ] ≡ a || b
    go true b = refl
    go false b = refl

begins-size : (xs : List (List Piece)) → every begins_slash xs ≡ every nil_or_slash xs && not (some is_nil xs)
unfolding every some
begins-size [] = refl
begins-size ([] ∷ xs) = never (every nil_or_slash xs)
  where
    never : (a : Bool) → false ≡ a && false
    never true = refl
    never false = refl
begins-size ((p ∷ x) ∷ xs) = ap (λ (z : Bool). is_slash p && z) (begins-size xs) ∙ sym (and_assoc (is_slash p) (every nil_or_slash xs) (not (some is_nil xs)))

pub rooted-size : (vs : List Variable) (s : List ℕ) → rooted vs s ≡ rooted_size (size_of (expansions vs s))
unfolding rooted size_of
rooted-size vs s = begins-size (expansions vs s)
