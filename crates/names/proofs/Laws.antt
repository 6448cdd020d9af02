-- What the definitions of names say at a place.
use Prim.Native.Nat.{ℕ, ◌≤◌, ◌<◌}
use mathlib.Core.Path.{◌≡◌, refl}
use mathlib.Core.List.{List, [], ◌∷◌}
use mathlib.Core.Bool.{false, ◌&&◌}
use lib.ListN.{length, get_or, drop}
use native.Mathlib.Omega.{arith}
use Rattle.scan.specs.Bytes.{every, letter}
use Rattle.names.specs.Names.{variable_byte, variable_form}

-- the form of a variable's name: an empty one has it not, another by its first byte and the rest
pub form-empty : (s : List ℕ) → length s < 1 → variable_form s ≡ false
unfolding variable_form
form-empty [] h = refl
form-empty (b ∷ s) h = absurd (omega arith)

pub form-first : (s : List ℕ) → 1 ≤ length s → variable_form s ≡ (letter (get_or s 0 0) && every variable_byte (drop 1 s))
unfolding variable_form
form-first [] h = absurd (omega arith)
form-first (b ∷ s) h = refl
