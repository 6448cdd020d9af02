-- What a pattern says of a path as it is written, where it has no choices: pieces of one byte each, then one star or none, then
-- literals and ? up to its end.
use Rattle.std.specs.Prelude.{Option, Some, None, ℕ, zero, suc, ◌-◌, List, [], ◌∷◌, Bool, true, false, not, ◌&&◌, ◌||◌, length, take, drop, eqb, ltb, if◌then◌else◌}
use Prim.Native.Char.{code}
use Rattle.scan.specs.Bytes.{begins, every, is_empty}
use Rattle.class.specs.Class.{in_class, good_class}
use Rattle.pattern.specs.Pieces.{up_to}
use Rattle.matcher.specs.Match.{no_slash}
use Rattle.front.specs.Front.{plain_after}
use Rattle.direct.specs.declared.One.{One}
use Rattle.direct.specs.declared.Outcome.{Outcome}
use Rattle.direct.specs.declared.Outcome.TheVariants as outcome

-- ---- a piece of one byte

-- how many bytes write it, and whether it takes the path's
abbrev pub one : ℕ → Bool → Option One
one n t = Some (record { width = n; takes = t })

-- a class by what follows its [, of n bytes with the ]
abbrev pub class_one : (b : ℕ) → List ℕ → ℕ → Option One
class_one b s zero = None
class_one b s (suc n) = if good_class (take n s) then one (suc (suc n)) (in_class (take n s) b) else None

-- the one that a pattern begins with, behind a / or not, against the byte b: ?, a class, or a literal that no slash joins
unfoldable pub one_at : (slash : Bool) → (b : ℕ) → List ℕ → Option One
one_at slash b [] = None
one_at slash b (c ∷ s) =
    if eqb c (code "?") then one 1 (no_slash b)
    else if eqb c (code "[") then class_one b s (up_to (code "]") s)
    else if plain_after slash c then one 1 (eqb b c)
    else None

-- ---- a star

-- literals and ? only, and no / behind a /
unfoldable pub simple : (slash : Bool) → List ℕ → Bool
simple slash [] = true
simple slash (b ∷ s) = (plain_after slash b || eqb b (code "?")) && simple (eqb b (code "/")) s

-- each takes the byte of the path at its place
unfoldable pub fitting : (tail path : List ℕ) → Bool
fitting [] p = true
fitting (b ∷ s) [] = false
fitting (b ∷ s) (c ∷ p) = (if eqb b (code "?") then no_slash c else eqb b c) && fitting s p

-- a star before a tail: it takes what the tail leaves of the path, any bytes or none that is a /
unfoldable pub star_of : (any : Bool) → (tail path : List ℕ) → Outcome
star_of any tail path =
    if not (simple false tail) then outcome.Open
    else if ltb (length path) (length tail) then outcome.Miss
    else if fitting tail (drop (length path - length tail) path) && (any || every no_slash (take (length path - length tail) path)) then outcome.Hit
    else outcome.Miss

-- what is left behind the pieces of one byte: nothing, a star, or what is not told here
unfoldable pub rest_of : (pattern path : List ℕ) → Outcome
rest_of [] path = if is_empty path then outcome.Hit else outcome.Miss
rest_of (c ∷ s) path =
    if eqb c (code "*") then (if begins (code "*") s then star_of true (drop 1 s) path else star_of false s path) else outcome.Open

-- ---- a pattern behind a / or not

abbrev pub step_of : Option One → (later : One → Outcome) → (rest : Outcome) → Outcome
step_of None later rest = rest
step_of (Some o) later rest = if o.takes then later o else outcome.Miss

unfoldable pub outcome_of : (slash : Bool) → (pattern path : List ℕ) → Outcome
outcome_of slash s [] = rest_of s []
outcome_of slash s (b ∷ p) = step_of (one_at slash b s) (λ o. outcome_of (begins (code "/") s) (drop o.width s) p) (rest_of s (b ∷ p))
