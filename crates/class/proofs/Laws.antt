-- The ranges of a class, from the front.
use mathlib.Core.Path.{◌≡◌, refl}
use mathlib.Core.Bool.{Bool, true, false, not, ◌&&◌}
use mathlib.Core.List.{List, [], ◌∷◌}
use Prim.Native.Nat.{ℕ, zero, suc, ◌<◌}
use Prim.Native.Char.{code}
use native.Mathlib.Omega.{arith}
use lib.ListN.{length, drop, get_or}
use lib.Dec.{eqb, ltb}
use borrow.Author.Tests.{eq-eqb, ne_eqb, lt-ltb}
use Rattle.std.specs.List.{list_any}
use Rattle.scan.specs.Bytes.{begins, between, some, every}
use lib.Seq.{drop-cons}
use Rattle.scan.proofs.Laws.{some_any, no_length}
use Rattle.class.specs.Class.{Range, ranges, members, negated, listed, in_class, good_range, good_class}

ranges-skip : (k : ℕ) (s : List ℕ) → ranges k s ≡ ranges 0 (drop k s)
unfolding ranges
ranges-skip zero s = refl
ranges-skip (suc k) [] = refl
ranges-skip (suc k) (b ∷ s) = ranges-skip k s

-- a range of two bytes, and a byte by itself
pub ranges-pair : (s : List ℕ) → 2 < length s → get_or s 1 0 ≡ code "-" →
    ranges 0 s ≡ record { low = get_or s 0 0; high = get_or s 2 0 } ∷ ranges 0 (drop 3 s)
unfolding ranges
ranges-pair [] h e = absurd (omega arith)
ranges-pair (a ∷ []) h e = absurd (omega arith)
ranges-pair (a ∷ b ∷ []) h e = absurd (omega arith)
ranges-pair (a ∷ b ∷ c ∷ s) h e = rw (eq-eqb b (code "-") e, lt-ltb 1 (suc (suc (length s))) (omega arith), ranges)

pub ranges-one : (s : List ℕ) (a : ℕ) (l : List ℕ) → s ≡ a ∷ l → (2 < length s → get_or s 1 0 ≡ code "-" → ⊥) →
    ranges 0 s ≡ record { low = a; high = a } ∷ ranges 0 l
unfolding ranges
ranges-one s a [] q e = rw q
ranges-one s a (b ∷ []) q e = rw q (go (eqb b (code "-")))
  where
    go : (t : Bool) → ◌≡◌ {A = List Range}
        (elim (t && false) as (λ _. List Range) [
          | true ↦ record { low = a; high = 0 } ∷ []
          | false ↦ record { low = a; high = a } ∷ ranges 0 (b ∷ [])
        ]) (record { low = a; high = a } ∷ ranges 0 (b ∷ []))
    go true = refl
    go false = refl
ranges-one s a (b ∷ c ∷ l) q e = rw q (rw (ne_eqb b (code "-") (rw q at e (omega arith)), ranges))

-- a byte against the first range, and against those behind it
module _ (b : ℕ) (s : List ℕ) where
  module _ (h : 2 < length s) (e : get_or s 1 0 ≡ code "-") where
    pub pair-holds : between (get_or s 0 0) (get_or s 2 0) b ≡ true → some (λ (r : Range). between r.low r.high b) (ranges 0 s) ≡ true
    unfolding some
    pair-holds t = rw (ranges-pair s h e, t)

    pub pair-passed : between (get_or s 0 0) (get_or s 2 0) b ≡ false →
        some (λ (r : Range). between r.low r.high b) (ranges 0 s) ≡ some (λ (r : Range). between r.low r.high b) (ranges 0 (drop 3 s))
    unfolding some
    pair-passed t = rw (ranges-pair s h e, t)

  module _ (h : 0 < length s) (e : 2 < length s → get_or s 1 0 ≡ code "-" → ⊥) where
    pub one-holds : between (get_or s 0 0) (get_or s 0 0) b ≡ true → some (λ (r : Range). between r.low r.high b) (ranges 0 s) ≡ true
    unfolding some
    one-holds t = rw (ranges-one s (get_or s 0 0) (drop 1 s) (drop-cons s 0 0 h) e, t)

    pub one-passed : between (get_or s 0 0) (get_or s 0 0) b ≡ false →
        some (λ (r : Range). between r.low r.high b) (ranges 0 s) ≡ some (λ (r : Range). between r.low r.high b) (ranges 0 (drop 1 s))
    unfolding some
    one-passed t = rw (ranges-one s (get_or s 0 0) (drop 1 s) (drop-cons s 0 0 h) e, t)

  pub held-none : length s ≡ 0 → some (λ (r : Range). between r.low r.high b) (ranges 0 s) ≡ false
  unfolding some ranges
  held-none h = rw (no_length s h)

-- the members, and whether there is one
pub good-none : (s : List ℕ) → members s ≡ [] → good_class s ≡ false
unfolding good_class some
good-none s e = rw e

pub good-some : (s l : List ℕ) → ranges 0 l ≡ members s → 0 < length l → good_class s ≡ every good_range (members s)
unfolding good_class some ranges
good-some s [] e h = absurd (omega arith)
good-some s (b ∷ l) e h = rw (← e) (go (begins (code "-") l && ltb 1 (length l)))
  where
    go : (t : Bool) → let rs : List Range = elim t as (λ _. List Range) [
      | true ↦ record { low = b; high = get_or l 1 0 } ∷ ranges 2 l
      | false ↦ record { low = b; high = b } ∷ ranges 0 l
    ] in (some (λ (r : Range). true) rs && every good_range rs) ≡ every good_range rs
    go true = refl
    go false = refl

-- behind a ^
pub members-behind : (s : List ℕ) → 0 < length s → get_or s 0 0 ≡ code "^" → ranges 0 (drop 1 s) ≡ members s
unfolding ranges
members-behind [] h e = absurd (omega arith)
members-behind (b ∷ s) h e = rw (eq-eqb b (code "^") e)

-- a byte against the class
module _ (s : List ℕ) (b : ℕ) where
  pub listed-any : (l : Bool) → l ≡ list_any (λ (r : Range). between r.low r.high b) (members s) → (l && not (eqb b (code "/"))) ≡ listed s b
  unfolding listed
  listed-any l e = rw (e, some_any (λ (r : Range). between r.low r.high b) (members s))

  pub in-negated : negated s ≡ true → in_class s b ≡ not (listed s b)
  unfolding in_class
  in-negated e = rw e

  pub in-listed : negated s ≡ false → in_class s b ≡ listed s b
  unfolding in_class
  in-listed e = rw e
