-- The line and the column of a place, and of the place after it.
use Rattle.std.specs.Prelude.{if◌then◌else◌}
use Prim.Native.Nat.{ℕ, suc, ◌+◌, ◌≤◌, ◌<◌}
use Prim.Native.Char.{code}
use mathlib.Core.Path.{◌≡◌, refl, ap}
use mathlib.Core.List.{List, [], ◌∷◌, ◌++◌, reverse, reverse-append}
use mathlib.Core.Bool.{Bool, true, false}
use lib.ListN.{length, get_or, take}
use lib.Seq.{take_all, take-suc}
use lib.Dec.{eqb}
use native.Mathlib.Numerals.{add-one}
use native.Mathlib.Omega.{arith}
use Rattle.scan.specs.Bytes.{run}
use borrow.Author.Tests.{eq-eqb, ne_eqb}
use Rattle.text.specs.Reading.{feeds, line_of, not_feed, column_of}

feeds-append : (a b : List ℕ) → feeds (a ++ b) ≡ feeds a + feeds b
unfolding feeds
feeds-append [] b = omega arith
feeds-append (c ∷ a) b = go (eqb c (code "\n")) (feeds-append a b)
  where
    go : (x : Bool) → feeds (a ++ b) ≡ feeds a + feeds b
        → (if x then suc (feeds (a ++ b)) else feeds (a ++ b)) ≡ (if x then suc (feeds a) else feeds a) + feeds b
    go true e = omega arith
    go false e = e

pub at-start : (s : List ℕ) → (1 ≡ line_of s 0) × (1 ≡ column_of s 0)
unfolding line_of column_of feeds run
at-start s = (refl, refl)

-- a place that has i bytes before it
pub at-end : (s : List ℕ) (p i : ℕ) → length (take p s) ≤ i → (line_of (take p s) i ≡ line_of s p) × (column_of (take p s) i ≡ column_of s p)
unfolding line_of column_of
at-end s p i h = rw (take_all i (take p s) h) (refl, refl)

module _ (s : List ℕ) (i : ℕ) (h : i < length s) where
  one_more : take (i + 1) s ≡ take i s ++ (get_or s i 0 ∷ [])
  one_more = rw (add-one, take-suc s i 0 h)

  line-by : line_of s (i + 1) ≡ line_of s i + feeds (get_or s i 0 ∷ [])
  unfolding line_of
  line-by = omega (arith, ap feeds one_more, feeds-append (take i s) (get_or s i 0 ∷ []))

  column-by : column_of s (i + 1) ≡ 1 + run not_feed (get_or s i 0 ∷ reverse (take i s))
  unfolding column_of
  column-by = ap (λ (l : List ℕ). 1 + run not_feed l) (rw (one_more, reverse-append (take i s) (get_or s i 0 ∷ [])))

  -- after an LF, and after another byte
  pub after-feed : get_or s i 0 ≡ code "\n" → (line_of s (i + 1) ≡ line_of s i + 1) × (column_of s (i + 1) ≡ 1)
  unfolding feeds run
  after-feed e = (rw (line-by, eq-eqb _ _ e, feeds), rw (column-by, eq-eqb _ _ e, run))

  pub after-other : (get_or s i 0 ≡ code "\n" → ⊥) → (line_of s (i + 1) ≡ line_of s i) × (column_of s (i + 1) ≡ column_of s i + 1)
  unfolding feeds run column_of
  after-other e = (rw (line-by, ne_eqb _ _ e, feeds) (omega arith), rw (column-by, ne_eqb _ _ e, run) (omega arith))
