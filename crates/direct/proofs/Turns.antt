-- A turn of each loop, place by place.
use Rattle.std.specs.Prelude.{Option, Some, None, if◌then◌else◌}
use mathlib.Core.Path.{◌≡◌, refl, ap}
use mathlib.Core.Bool.{Bool, true, false, not, ◌&&◌, ◌||◌, and-false}
use mathlib.Core.List.{List, [], ◌∷◌}
use Prim.Native.Nat.{ℕ, zero, suc, ◌+◌, ◌-◌, ◌≤◌, ◌<◌}
use Prim.Native.Char.{code}
use native.Mathlib.Numerals.{add-one}
use native.Mathlib.Omega.{arith}
use lib.ListN.{length, take, drop, get_or, drop_of_length-le}
use lib.Dec.{eqb}
use borrow.Author.Tests.{eq-eqb, ne_eqb, lt-ltb, le-ltb}
use Rattle.std.specs.List.{list_all, zip}
use Rattle.scan.specs.Bytes.{begins, every, some, holds, is_empty}
use Rattle.scan.proofs.Laws.{no_length}
use Rattle.class.specs.Class.{in_class, good_class}
use Rattle.pattern.specs.Pieces.{up_to}
use Rattle.pattern.proofs.Laws.{cons-at, up_to-le}
use Rattle.matcher.specs.Match.{no_slash}
use Rattle.front.specs.Front.{plain_after}
use Rattle.front.proofs.Laws.{eqb-turn}
use Rattle.direct.specs.declared.One.{One}
use Rattle.direct.specs.declared.Outcome.TheVariants as outcome
use Rattle.direct.specs.Direct.{one, class_one, one_at, simple, fitting, star_of, rest_of, outcome_of}

-- ---- a tail is simple

module _ (s : List ℕ) (i : ℕ) (slash : Bool) where
  module _ (h : i < length s) {t : Bool} (e : t ≡ plain_after slash (get_or s i 0)) where
    pub simple-stop : (t || eqb (get_or s i 0) (code "?")) ≡ false → false ≡ simple slash (drop i s)
    unfolding simple
    simple-stop z = rw (cons-at s i h, simple) (go (plain_after slash (get_or s i 0)) e)
      where
        go : (x : Bool) → t ≡ x → false ≡ ((x || eqb (get_or s i 0) (code "?")) && simple (eqb (get_or s i 0) (code "/")) (drop (i + 1) s))
        go x w = rw (← w, z)

    pub simple-next : (t || eqb (get_or s i 0) (code "?")) ≡ true → simple (eqb (get_or s i 0) (code "/")) (drop (i + 1) s) ≡ simple slash (drop i s)
    unfolding simple
    simple-next z = rw (cons-at s i h, simple) (go (plain_after slash (get_or s i 0)) e)
      where
        go : (x : Bool) → t ≡ x → simple (eqb (get_or s i 0) (code "/")) (drop (i + 1) s) ≡ ((x || eqb (get_or s i 0) (code "?")) && simple (eqb (get_or s i 0) (code "/")) (drop (i + 1) s))
        go x w = rw (← w, z)

  pub simple-end : length s ≤ i → simple slash (drop i s) ≡ true
  unfolding simple
  simple-end h = rw (drop_of_length-le s h)

-- ---- it fits the path

-- a byte of the tail takes one of the path
abbrev pub pair_fits : ℕ × ℕ → Bool
pair_fits e = if eqb e.0 (code "?") then no_slash e.1 else eqb e.0 e.1

pub fitting-short : (t p : List ℕ) → length p < length t → fitting t p ≡ false
unfolding fitting
fitting-short [] p h = absurd (omega arith)
fitting-short (b ∷ t) [] h = refl
fitting-short (b ∷ t) (c ∷ p) h = rw (fitting-short t p (omega arith)) (and-false (pair_fits (b, c)))

pub fitting-all : (t p : List ℕ) → length t ≤ length p → list_all pair_fits (zip t p) ≡ fitting t p
unfolding fitting
fitting-all [] p h = refl
fitting-all (b ∷ t) [] h = absurd (omega arith)
fitting-all (b ∷ t) (c ∷ p) h = ap (λ (x : Bool). pair_fits (b, c) && x) (fitting-all t p (omega arith))

-- ---- a piece of one byte

pub none-some : {A : Type 0} {x : A} → None ≡ Some x → ⊥
none-some e = cc

pub some-eq : {A : Type 0} {x y : A} → Some x ≡ Some y → x ≡ y
some-eq e = cc

class-within : (b : ℕ) (s : List ℕ) (n : ℕ) → n ≤ length s → (o : One) → class_one b s n ≡ Some o → (0 < o.width) × (o.width ≤ suc (length s))
class-within b s zero h o e = absurd (none-some e)
class-within b s (suc n) h o e = go (good_class (take n s)) e
  where
    go : (t : Bool) → (if t then one (suc (suc n)) (in_class (take n s) b) else None) ≡ Some o → (0 < o.width) × (o.width ≤ suc (length s))
    go true e = rw (← some-eq e) (omega arith, omega arith)
    go false e = absurd (none-some e)

-- it is written by some bytes of the pattern
pub one-within : (slash : Bool) (b : ℕ) (s : List ℕ) (o : One) → one_at slash b s ≡ Some o → (0 < o.width) × (o.width ≤ length s)
unfolding one_at
one-within slash b [] o e = absurd (none-some e)
one-within slash b (c ∷ s) o e = go (eqb c (code "?")) (eqb c (code "[")) (plain_after slash c) e
  where
    go : (x y z : Bool) → (if x then one 1 (no_slash b) else if y then class_one b s (up_to (code "]") s) else if z then one 1 (eqb b c) else None) ≡ Some o → (0 < o.width) × (o.width ≤ suc (length s))
    go true y z e = rw (← some-eq e) (omega arith, omega arith)
    go false true z e = class-within b s (up_to (code "]") s) (up_to-le (code "]") s) o e
    go false false true e = rw (← some-eq e) (omega arith, omega arith)
    go false false false e = absurd (none-some e)

-- a class, good or not
pub class-one : (b : ℕ) (s class : List ℕ) (n : ℕ) → n ≡ up_to (code "]") s → (n ≡ 0 → ⊥) → class ≡ take (n - 1) s → (t : Bool) → t ≡ good_class class →
    (if t then one (n + 1) (in_class class b) else None) ≡ class_one b s (up_to (code "]") s)
class-one b s class n e h c t g = rw (← e) (go n h c)
  where
    go : (n : ℕ) → (n ≡ 0 → ⊥) → class ≡ take (n - 1) s → (if t then one (n + 1) (in_class class b) else None) ≡ class_one b s n
    go zero h c = absurd (h refl)
    go (suc n) h c =
        let k : suc n - 1 ≡ n = omega arith in
        let d : class ≡ take n s = rw k at c in
        rw (add-one (suc n), g, d)

module _ (slash : Bool) (b : ℕ) (s : List ℕ) (c : ℕ) (r : List ℕ) (w : s ≡ c ∷ r) where
  pub one-any : c ≡ code "?" → one 1 (no_slash b) ≡ one_at slash b s
  unfolding one_at
  one-any e = rw (w, one_at, eq-eqb c (code "?") e)

  module _ (q : c ≡ code "?" → ⊥) where
    pub one-class : c ≡ code "[" → class_one b r (up_to (code "]") r) ≡ one_at slash b s
    unfolding one_at
    one-class e = rw (w, one_at, ne_eqb c (code "?") q, eq-eqb c (code "[") e)

    pub one-plain : (c ≡ code "[" → ⊥) → (t : Bool) → t ≡ plain_after slash c → (if t then one 1 (eqb b c) else None) ≡ one_at slash b s
    unfolding one_at
    one-plain n t e =
        rw (w, one_at)
        (go (eqb c (code "?")) (eqb c (code "[")) (plain_after slash c) (class_one b r (up_to (code "]") r)) (ne_eqb c (code "?") q) (ne_eqb c (code "[") n) e)
      where
        go : (x y z : Bool) (l : Option One) → x ≡ false → y ≡ false → t ≡ z →
            (if t then one 1 (eqb b c) else None) ≡ (if x then one 1 (no_slash b) else if y then l else if z then one 1 (eqb b c) else None)
        go x y z l p r w = rw (p, r, w)

-- ---- a star

-- what the star takes holds no /
every_holds : (s : List ℕ) → every no_slash s ≡ not (holds (code "/") s)
unfolding every some
every_holds [] = refl
every_holds (b ∷ s) = go (eqb b (code "/")) (eqb (code "/") b) (every no_slash s) (holds (code "/") s) (eqb-turn b (code "/")) (every_holds s)
  where
    go : (x y e h : Bool) → x ≡ y → e ≡ not h → (not x && e) ≡ not (y || h)
    go true y e h p q = rw (← p)
    go false y e h p q = rw (← p) q

module _ (any : Bool) (tail path : List ℕ) {t : Bool} (e : t ≡ simple false tail) where
  pub star-open : t ≡ false → outcome.Open ≡ star_of any tail path
  unfolding star_of
  star-open z = rw (← e, z)

  module _ (z : t ≡ true) where
    pub star-short : length path < length tail → outcome.Miss ≡ star_of any tail path
    unfolding star_of
    star-short h = rw (← e, z, lt-ltb (length path) (length tail) h)

    module _ (h : length tail ≤ length path) {m : ℕ} (n : m ≡ length path - length tail) where
      star-by : star_of any tail path ≡ (if fitting tail (drop m path) && (any || not (holds (code "/") (take m path))) then outcome.Hit else outcome.Miss)
      unfolding star_of
      star-by = rw (← e, z, le-ltb (length path) (length tail) h, ← n, every_holds (take m path))

      module _ {f : Bool} (g : f ≡ fitting tail (drop m path)) where
        pub star-unfit : f ≡ false → outcome.Miss ≡ star_of any tail path
        star-unfit q = rw (star-by, ← g, q)

        module _ (q : f ≡ true) {o : Bool} (k : o ≡ holds (code "/") (take m path)) where
          pub star-hit : (any || not o) ≡ true → outcome.Hit ≡ star_of any tail path
          star-hit y = rw (star-by, ← g, q, ← k, y)

          pub star-slash : (any || not o) ≡ false → outcome.Miss ≡ star_of any tail path
          star-slash y = rw (star-by, ← g, q, ← k, y)

-- ---- what is left

module _ (s path : List ℕ) where
  pub rest-ends : length s ≡ 0 → (t : Bool) → t ≡ eqb (length path) 0 → (if t then outcome.Hit else outcome.Miss) ≡ rest_of s path
  unfolding rest_of
  rest-ends h t e = rw (no_length s h, e) (go path)
    where
      go : (p : List ℕ) → (if eqb (length p) 0 then outcome.Hit else outcome.Miss) ≡ (if is_empty p then outcome.Hit else outcome.Miss)
      go [] = refl
      go (b ∷ p) = rw (ne_eqb (suc (length p)) 0 (λ q. omega arith))

  pub rest-open : 0 < length s → (get_or s 0 0 ≡ code "*" → ⊥) → outcome.Open ≡ rest_of s path
  unfolding rest_of
  rest-open h e = go s h e
    where
      go : (s : List ℕ) → 0 < length s → (get_or s 0 0 ≡ code "*" → ⊥) → outcome.Open ≡ rest_of s path
      go [] h e = absurd (omega arith)
      go (c ∷ s) h e = rw (ne_eqb c (code "*") e)

  module _ (h : 0 < length s) (e : get_or s 0 0 ≡ code "*") where
    pub rest-stars : 1 < length s → get_or s 1 0 ≡ code "*" → star_of true (drop 2 s) path ≡ rest_of s path
    unfolding rest_of
    rest-stars l k = go s h e l k
      where
        go : (s : List ℕ) → 0 < length s → get_or s 0 0 ≡ code "*" → 1 < length s → get_or s 1 0 ≡ code "*" → star_of true (drop 2 s) path ≡ rest_of s path
        go [] h e l k = absurd (omega arith)
        go (b ∷ []) h e l k = absurd (omega arith)
        go (b ∷ c ∷ s) h e l k = rw (eq-eqb b (code "*") e, eq-eqb c (code "*") k)

    pub rest-star : (1 < length s → get_or s 1 0 ≡ code "*" → ⊥) → star_of false (drop 1 s) path ≡ rest_of s path
    unfolding rest_of
    rest-star n = go s h e n
      where
        go : (s : List ℕ) → 0 < length s → get_or s 0 0 ≡ code "*" → (1 < length s → get_or s 1 0 ≡ code "*" → ⊥) → star_of false (drop 1 s) path ≡ rest_of s path
        go [] h e n = absurd (omega arith)
        go (b ∷ []) h e n = rw (eq-eqb b (code "*") e)
        go (b ∷ c ∷ s) h e n = rw (eq-eqb b (code "*") e, ne_eqb c (code "*") (n (omega arith)))

-- ---- a turn of the comparing

module _ (slash : Bool) (s : List ℕ) (b : ℕ) (p path : List ℕ) (w : path ≡ b ∷ p) where
  pub outcome-rest : None ≡ one_at slash b s → rest_of s path ≡ outcome_of slash s path
  unfolding outcome_of
  outcome-rest e = rw (w, outcome_of, ← e)

  module _ (o : One) (e : Some o ≡ one_at slash b s) where
    pub outcome-miss : o.takes ≡ false → outcome.Miss ≡ outcome_of slash s path
    unfolding outcome_of
    outcome-miss t = rw (w, outcome_of, ← e, t)

    pub outcome-next : o.takes ≡ true → outcome_of (begins (code "/") s) (drop o.width s) p ≡ outcome_of slash s path
    unfolding outcome_of
    outcome-next t = rw (w, outcome_of, ← e, t)

pub outcome-end : (slash : Bool) (s path : List ℕ) → length path ≡ 0 → rest_of s path ≡ outcome_of slash s path
unfolding outcome_of
outcome-end slash s path h = rw (no_length path h)
