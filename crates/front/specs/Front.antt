-- The front of a pattern: its first bytes that are literals whatever stands behind them.
use Rattle.std.specs.Prelude.{ℕ, ◌+◌, ◌≡◌, List, [], ◌∷◌, Bool, true, false, not, ◌&&◌, length, get_or, eqb, if◌then◌else◌, Option, Some, None}
use Prim.Native.Char.{code}
use Rattle.scan.specs.Bytes.{every, some}
use Rattle.pattern.specs.Expansions.{Variable, expansions, is_literal, joined_after}
use Rattle.pattern.specs.Literals.{special, ordinary}
use Rattle.matcher.specs.Match.{matches}
use Rattle.front.specs.declared.Led.{Led}

-- the first list begins the second
unfoldable pub beginning : List ℕ → List ℕ → Bool
beginning [] s = true
beginning (a ∷ l) [] = false
beginning (a ∷ l) (b ∷ s) = eqb a b && beginning l s

-- a byte that is itself a literal, and no second / in a row: "Then neighbouring literal / become one."
abbrev pub plain_after : (slash : Bool) → ℕ → Bool
plain_after slash b = ordinary b && not (slash && eqb b (code "/"))

unfoldable pub front_after : (slash : Bool) → List ℕ → List ℕ
front_after slash [] = []
front_after slash (b ∷ s) = if plain_after slash b then b ∷ front_after (eqb b (code "/")) s else []

abbrev pub front : List ℕ → List ℕ
front pattern = front_after false pattern

-- whether the byte before the place behind f is a /: the last of f, or where f is empty the one before it
unfoldable pub slash_after : (slash : Bool) → List ℕ → Bool
slash_after slash [] = slash
slash_after slash (b ∷ f) = slash_after (eqb b (code "/")) f

-- what is told of f and a path: where f begins it, how long f is, and whether a / stands before what follows; else nothing
abbrev pub led_by : (slash : Bool) → (f path : List ℕ) → Option Led
led_by slash f path = if beginning f path then Some (record { len = length f; slash = slash_after slash f }) else None

-- the front of a pattern, held to a path
unfoldable pub lead_of : (slash : Bool) → (pattern path : List ℕ) → Option Led
lead_of slash pattern path = led_by slash (front_after slash pattern) path

-- byte j of a pattern is the path's, a literal by itself, and no / before a /
pub record Passed (pattern path : List ℕ) (j : ℕ) : Type 0 where
  pub same : get_or path j 0 ≡ get_or pattern j 0
  pub literal : special (get_or pattern j 0) ≡ false
  pub single : (eqb (get_or pattern j 0) (code "/") && eqb (get_or pattern (j + 1) 0) (code "/")) ≡ false

-- some expansion matches all of the path where a / stands before it, or not; some such expansion that is literals only
unfoldable pub some_after : (slash : Bool) → List Variable → (pattern path : List ℕ) → Bool
some_after slash vs pattern path = some (λ x. matches (joined_after slash x) path) (expansions vs pattern)

unfoldable pub exact_after : (slash : Bool) → List Variable → (pattern path : List ℕ) → Bool
exact_after slash vs pattern path = some (λ x. every is_literal x && matches (joined_after slash x) path) (expansions vs pattern)
