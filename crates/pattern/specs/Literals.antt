-- Bytes of a pattern that are literals whatever stands behind them.
use Rattle.std.specs.Prelude.{ℕ, Bool, not, ◌||◌, eqb}
use Prim.Native.Char.{code}

-- a byte that may be more than a literal, or none
abbrev pub special : ℕ → Bool
special b =
    eqb b (code "\\") || eqb b (code "?") || eqb b (code "*") || eqb b (code "[") || eqb b (code "]")
    || eqb b (code "{") || eqb b (code "}") || eqb b (code "@") || eqb b (code "^")

abbrev pub ordinary : ℕ → Bool
ordinary b = not (special b)
