-- The parts and items at a place of a pattern or value.
use Rattle.std.specs.Prelude.{ℕ, ◌+◌, List, [], ◌∷◌, Bool, ◌||◌, length, get_or, drop, eqb, ltb, if◌then◌else◌}
use Prim.Native.Char.{code}
use Rattle.pattern.specs.Pieces.{Part, Bad, part, extra}
use Rattle.pattern.specs.Items.{Item, Single, item, reach}

abbrev pub part_of : List ℕ → Part
part_of [] = Bad
part_of (b ∷ s) = part b s

-- the part at a place, and the place after it; at the end there is none
abbrev pub part_at : List ℕ → ℕ → Part
part_at s i = part_of (drop i s)

unfoldable pub part_end : List ℕ → ℕ → ℕ
part_end s i = if ltb i (length s) then i + 1 + extra (get_or s i 0) (drop (i + 1) s) else length s

abbrev pub item_of : List ℕ → Item
item_of [] = Single Bad
item_of (b ∷ s) = item b s

-- the item at a place, and the place after it
abbrev pub item_at : List ℕ → ℕ → Item
item_at s i = item_of (drop i s)

unfoldable pub item_end : List ℕ → ℕ → ℕ
item_end s i = if ltb i (length s) then i + 1 + reach (get_or s i 0) (drop (i + 1) s) else length s

-- a byte that is no part by itself
abbrev pub lone : ℕ → Bool
lone b = eqb b (code "]") || eqb b (code "{") || eqb b (code "}") || eqb b (code "^")
