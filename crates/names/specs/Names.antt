-- The form of the names of profiles and targets, and of variables.
use Rattle.std.specs.Prelude.{ℕ, List, [], ◌∷◌, Bool, false, ◌||◌, ◌&&◌, eqb, if◌then◌else◌}
use Prim.Native.Char.{code}
use Rattle.scan.specs.Bytes.{digit, every, holds, letter}

-- "Names are literal: letters, digits, / . _ - +, and space when quoted"
abbrev pub name_byte : (quoted : Bool) → ℕ → Bool
name_byte quoted b =
    letter b || digit b || eqb b (code "/") || eqb b (code ".") || eqb b (code "_") || eqb b (code "-") || eqb b (code "+")
    || (quoted && eqb b (code " "))

-- "they begin with a letter, digit or /"
abbrev pub name_first : ℕ → Bool
name_first b = letter b || digit b || eqb b (code "/")

abbrev pub name_start : List ℕ → Bool
name_start [] = false
name_start (b ∷ s) = name_first b

unfoldable pub name_form : (quoted : Bool) → List ℕ → Bool
name_form quoted s = name_start s && every (name_byte quoted) s

-- "NAME: a letter, then letters, digits, underscores"
abbrev pub variable_byte : ℕ → Bool
variable_byte b = letter b || digit b || eqb b (code "_")

unfoldable pub variable_form : List ℕ → Bool
variable_form [] = false
variable_form (b ∷ s) = letter b && every variable_byte s

-- the fault of an assigned name, 0 where it has none: "A `"` inside an unquoted token is 4", another form is 6
unfoldable pub variable_fault : List ℕ → ℕ
variable_fault n = if holds (code "\"") n then 4 else if variable_form n then 0 else 6
