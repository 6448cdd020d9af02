-- The execute modes, as one table.
use Rattle.std.specs.Prelude.{ℕ, suc, List, [], ◌∷◌, Bool, true, false, ◌&&◌, eqb, Option, None, Some}
use Prim.Native.String.{String}
use Rattle.std.specs.Bool.{beq}
use Rattle.scan.specs.Bytes.{bytes, same}
use Rattle.modes.specs.declared.Kind.{Kind}
use Rattle.modes.specs.declared.Kind.TheVariants as kind
use Rattle.modes.specs.declared.Fallback.{Fallback}
use Rattle.modes.specs.declared.Fallback.TheVariants as fallback
use Rattle.modes.specs.declared.Mode.{Mode}
use Rattle.modes.specs.declared.Execute.{Execute}
use Rattle.modes.specs.declared.Execute.TheVariants.{NotAsked, Denied, Conflict, ByMode}

-- a row of the table: the mode as written, and what it means
pub record Row : Type 0 where
  pub word : String
  pub mode : Mode

abbrev row : String → Kind → Fallback → Bool → Row
row w k f s = record { word = w; mode = record { kind = k; fallback = f; scrubs = s } }

-- "Modes (000): ux Ux px Px cx Cx ix pix Pix cix Cix pux PUx cux CUx. A capital scrubs the environment;
-- `pix` and the like fall back to inherit, `pux` and the like to unconfined."
abbrev pub modes : List Row
modes =
    row "ux" kind.Unconfined fallback.Absent false
    ∷ row "Ux" kind.Unconfined fallback.Absent true
    ∷ row "px" kind.Profile fallback.Absent false
    ∷ row "Px" kind.Profile fallback.Absent true
    ∷ row "cx" kind.Child fallback.Absent false
    ∷ row "Cx" kind.Child fallback.Absent true
    ∷ row "ix" kind.Inherit fallback.Absent false
    ∷ row "pix" kind.Profile fallback.Inherit false
    ∷ row "Pix" kind.Profile fallback.Inherit true
    ∷ row "cix" kind.Child fallback.Inherit false
    ∷ row "Cix" kind.Child fallback.Inherit true
    ∷ row "pux" kind.Profile fallback.Unconfined false
    ∷ row "PUx" kind.Profile fallback.Unconfined true
    ∷ row "cux" kind.Child fallback.Unconfined false
    ∷ row "CUx" kind.Child fallback.Unconfined true
    ∷ []

-- the mode that a word names in a table
unfoldable pub mode_in : List Row → List ℕ → Option Mode
mode_in [] w = None
mode_in (r ∷ rs) w = elim (same w (bytes r.word)) [ true ↦ Some r.mode | false ↦ mode_in rs w ]

-- two modes are the same when kind, fallback and scrubbing are, each told by a number
abbrev pub kind_number : Kind → ℕ
kind_number kind.Unconfined = 0
kind_number kind.Profile = 1
kind_number kind.Child = 2
kind_number kind.Inherit = 3

abbrev pub fallback_number : Fallback → ℕ
fallback_number fallback.Absent = 0
fallback_number fallback.Inherit = 1
fallback_number fallback.Unconfined = 2

unfoldable pub same_mode : Mode → Mode → Bool
same_mode a b = eqb (kind_number a.kind) (kind_number b.kind) && eqb (fallback_number a.fallback) (fallback_number b.fallback) && beq a.scrubs b.scrubs

-- the number of a mode in a table whose first row has the number n; 255 where no row has the mode
unfoldable pub number_in : List Row → ℕ → Mode → ℕ
number_in [] n m = 255
number_in (r ∷ rs) n m = elim (same_mode m r.mode) [ true ↦ n | false ↦ number_in rs (suc n) m ]

-- a mode as a table writes it; nothing where no row has the mode
unfoldable pub word_in : List Row → Mode → List ℕ
word_in [] m = []
word_in (r ∷ rs) m = elim (same_mode m r.mode) [ true ↦ bytes r.word | false ↦ word_in rs m ]

-- "an execute answer is one of: not asked, denied, conflict, or a mode": its number, the modes from 3 on in the table's order
abbrev pub execute_number : Execute → ℕ
execute_number NotAsked = 0
execute_number Denied = 1
execute_number Conflict = 2
execute_number (ByMode m) = number_in modes 3 m

-- "`-` is not asked; `denied` and `conflict` are written so"; a mode is written as in the table
abbrev pub execute_word : Execute → List ℕ
execute_word NotAsked = bytes "-"
execute_word Denied = bytes "denied"
execute_word Conflict = bytes "conflict"
execute_word (ByMode m) = word_in modes m
