-- A turn of the loop that holds a pattern's front to the path, place by place.
use Rattle.std.specs.Prelude.{if◌then◌else◌, Option, Some, None}
use mathlib.Core.Path.{◌≡◌, refl, sym}
use mathlib.Core.Bool.{Bool, true, false}
use mathlib.Core.List.{List, [], ◌∷◌}
use Prim.Native.Nat.{ℕ, suc, ◌+◌, ◌≤◌, ◌<◌}
use Prim.Native.Char.{code}
use native.Mathlib.Nat.{zero-add}
use native.Mathlib.Numerals.{add-one}
use native.Mathlib.Omega.{arith}
use lib.ListN.{length, drop, get_or, drop_of_length-le}
use lib.Seq.{drop-cons}
use lib.Dec.{eqb}
use borrow.Author.Tests.{eq-eqb, ne_eqb}
use Rattle.front.specs.Front.{beginning, plain_after, front_after, slash_after, lead_of}
use Rattle.front.specs.declared.Led.{Led}

-- i bytes fit, and then what f does to the path
abbrev pub led : (i : ℕ) → (slash : Bool) → (f path : List ℕ) → Option Led
led i slash f path = if beginning f path then Some (record { len = length f + i; slash = slash_after slash f }) else None

abbrev pub lead_from : (i : ℕ) → (slash : Bool) → (s path : List ℕ) → Option Led
lead_from i slash s path = led i slash (front_after slash (drop i s)) (drop i path)

module _ (s path : List ℕ) (slash : Bool) where
  pub lead-first : lead_from 0 slash s path ≡ lead_of slash s path
  unfolding lead_of
  lead-first = let n : length (front_after slash s) + 0 ≡ length (front_after slash s) = omega arith in rw n

module _ (s path : List ℕ) (i : ℕ) (slash : Bool) where
  lead-more : (b : ℕ) (f p : List ℕ) → led (suc i) (eqb b (code "/")) f p ≡ led i slash (b ∷ f) (b ∷ p)
  unfolding beginning slash_after
  lead-more b f p =
      let n : length f + suc i ≡ suc (length f) + i = omega arith in
      rw (eq-eqb b b refl, n)

  pub lead-next : i < length s → plain_after slash (get_or s i 0) ≡ true → i < length path → get_or path i 0 ≡ get_or s i 0 →
      lead_from (i + 1) (eqb (get_or s i 0) (code "/")) s path ≡ lead_from i slash s path
  unfolding front_after
  lead-next h p l e =
      rw (add-one, drop-cons s i 0 h, drop-cons path i 0 l, front_after, p, e)
      (lead-more (get_or s i 0) (front_after (eqb (get_or s i 0) (code "/")) (drop (suc i) s)) (drop (suc i) path))

  pub lead-differs : i < length s → plain_after slash (get_or s i 0) ≡ true → i < length path → (get_or path i 0 ≡ get_or s i 0 → ⊥) →
      None ≡ lead_from i slash s path
  unfolding beginning front_after
  lead-differs h p l e = rw (drop-cons s i 0 h, drop-cons path i 0 l, front_after, p, ne_eqb (get_or s i 0) (get_or path i 0) (λ q. e (sym q)))

  pub lead-short : i < length s → plain_after slash (get_or s i 0) ≡ true → length path ≤ i → None ≡ lead_from i slash s path
  unfolding beginning front_after
  lead-short h p l = rw (drop-cons s i 0 h, drop_of_length-le path l, front_after, p)

  -- what is left of the front is nothing
  led-none : Some (record { len = i; slash = slash }) ≡ led i slash [] (drop i path)
  unfolding beginning slash_after
  led-none = rw (zero-add i)

  pub lead-stops : i < length s → plain_after slash (get_or s i 0) ≡ false → Some (record { len = i; slash = slash }) ≡ lead_from i slash s path
  unfolding front_after
  lead-stops h p = rw (drop-cons s i 0 h, front_after, p) led-none

  pub lead-ends : length s ≤ i → Some (record { len = i; slash = slash }) ≡ lead_from i slash s path
  unfolding front_after
  lead-ends h = rw (drop_of_length-le s h) led-none
