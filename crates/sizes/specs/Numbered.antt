-- The expansions of a text under a table of sizes, whatever the table holds: their size, and each by its number.
use Rattle.std.specs.Prelude.{ℕ, zero, suc, ◌-◌, ◌*◌, ◌/◌, ◌%◌, min, List, [], ◌∷◌, ◌++◌, true, false, eqb, ltb, if◌then◌else◌}
use Rattle.scan.specs.Bytes.{same}
use Rattle.pattern.specs.Pieces.{Piece, Part, parts}
use Rattle.pattern.specs.Items.{Item, items}
use Rattle.pattern.specs.Expansions.{Choices, of_part, of_parts, one_of, of_item, of_items, is_slash}
use Rattle.pattern.specs.Table.{bytes_at, values_of}
use Rattle.sizes.specs.declared.Size.{Size}
use Rattle.sizes.specs.Sizes.{times_of, plus_of, no_size, nil_size, size_at}

-- a size, and the expansion of a number
pub record Numbered : Type 0 where
  pub size : Size
  pub nth : ℕ → List Piece

-- the lowest digit of a number to a base, and the others; 0 where the base is
unfoldable pub low_of : (d base : ℕ) → ℕ
low_of d base = if eqb base 0 then 0 else d % base

unfoldable pub high_of : (d base : ℕ) → ℕ
high_of d base = if eqb base 0 then 0 else d / base

-- of one piece
abbrev pub piece_size : Piece → Size
piece_size p = record { count = 1; longest = 1; empty = false; slashed = is_slash p }

-- the choices as their size and by number: of neighbours the first has the lowest digit, of two kinds the first has the lower numbers
abbrev pub numbering : Choices Numbered
numbering =
    record {
      piece = λ p. record { size = piece_size p; nth = λ d. p ∷ [] };
      empty = record { size = nil_size; nth = λ d. [] };
      beside = λ a b. record { size = times_of a.size b.size; nth = λ d. a.nth (low_of d a.size.count) ++ b.nth (high_of d a.size.count) };
      none = record { size = no_size; nth = λ d. [] };
      either = λ a b. record { size = plus_of a.size b.size; nth = λ d. if ltb d a.size.count then a.nth d else b.nth (d - a.size.count) };
    }

-- what a name among the first w variables stands for: the size is the table's
unfoldable pub name_by : (text vars table : List ℕ) → ℕ → List ℕ → Numbered
name_by text vars table zero name = record { size = size_at table 0; nth = λ d. [] }
name_by text vars table (suc w) name =
    elim (same (bytes_at text vars (2 * w)) name) [
      | true ↦ record { size = size_at table (suc w); nth = (one_of numbering (name_by text vars table w) (values_of text vars w)).nth }
      | false ↦ name_by text vars table w name
    ]

-- a part, a value or alternative, several of these, an item, a pattern, under the first n variables
module _ (text vars : List ℕ) (n : ℕ) (table : List ℕ) where
  abbrev pub part_by : Part → Numbered
  part_by p = of_part numbering (name_by text vars table (min 32 n)) p

  abbrev pub value_by : List ℕ → Numbered
  value_by s = of_parts numbering (name_by text vars table (min 32 n)) (parts 0 s)

  abbrev pub one_by : List (List ℕ) → Numbered
  one_by ss = one_of numbering (name_by text vars table (min 32 n)) ss

  abbrev pub item_by : Item → Numbered
  item_by i = of_item numbering (name_by text vars table (min 32 n)) i

  abbrev pub pattern_by : List ℕ → Numbered
  pattern_by s = of_items numbering (name_by text vars table (min 32 n)) (items 0 s)
