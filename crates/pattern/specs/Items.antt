-- The items of a pattern: its parts, and its alternations.
use Rattle.std.specs.Prelude.{ℕ, zero, suc, List, [], ◌∷◌, Bool, true, false, ◌&&◌, length, take, eqb, leb, ltb, if◌then◌else◌}
use Prim.Native.Char.{code}
use Rattle.scan.specs.Bytes.{every}
use Rattle.pattern.specs.Pieces.{Part, Is, Use, Bad, extra, part, parts}

-- how many bytes after the first k stand before the first c that belongs to no part
unfoldable pub before : ℕ → ℕ → List ℕ → ℕ
before c k [] = 0
before c (suc k) (b ∷ s) = suc (before c k s)
before c zero (b ∷ s) = elim (eqb b c) [ true ↦ 0 | false ↦ suc (before c (extra b s) s) ]

-- what stands between the braces, where s follows the {
abbrev pub body : List ℕ → List ℕ
body s = take (before (code "}") 0 s) s

abbrev pub is_closed : List ℕ → Bool
is_closed s = ltb (before (code "}") 0 s) (length s)

-- the alternatives of a body: what its commas part
unfoldable pub after_comma : ℕ → List ℕ → List (List ℕ)
after_comma k [] = []
after_comma (suc k) (b ∷ s) = after_comma k s
after_comma zero (b ∷ s) = take (before (code ",") 0 s) s ∷ after_comma (before (code ",") 0 s) s

abbrev pub alternatives : List ℕ → List (List ℕ)
alternatives s = take (before (code ",") 0 s) s ∷ after_comma (before (code ",") 0 s) s

pub data Item : Type 0 where
  Single : Part → Item
  Among : List (List ℕ) → Item

-- the item that starts with b, where s follows, and how many bytes of s belong to it
unfoldable pub item : ℕ → List ℕ → Item
item b s =
    if eqb b (code "{") && is_closed s then Among (alternatives (body s))
    else Single (part b s)

unfoldable pub reach : ℕ → List ℕ → ℕ
reach b s = if eqb b (code "{") && is_closed s then suc (length (body s)) else extra b s

-- the items after the first k bytes
unfoldable pub items : ℕ → List ℕ → List Item
items k [] = []
items (suc k) (b ∷ s) = items k s
items zero (b ∷ s) = item b s ∷ items (reach b s) s

-- ---- the form

abbrev pub good_part : Part → Bool
good_part (Is p) = true
good_part (Use n) = true
good_part Bad = false

-- "Values hold no {x,y}"
unfoldable pub value_form : List ℕ → Bool
value_form s = every good_part (parts 0 s)

-- "{x,y} has two or more alternatives, possibly empty, not nested; it may hold pieces and variables."
abbrev pub good_item : Item → Bool
good_item (Single p) = good_part p
good_item (Among ss) = leb 2 (length ss) && every value_form ss

unfoldable pub pattern_form : List ℕ → Bool
pattern_form s = every good_item (items 0 s)

-- ---- the names used

abbrev pub names_part : (List ℕ → Bool) → Part → Bool
names_part known (Is p) = true
names_part known (Use n) = known n
names_part known Bad = true

-- every name used is known
unfoldable pub value_names : (List ℕ → Bool) → List ℕ → Bool
value_names known s = every (names_part known) (parts 0 s)

abbrev pub names_item : (List ℕ → Bool) → Item → Bool
names_item known (Single p) = names_part known p
names_item known (Among ss) = every (value_names known) ss

unfoldable pub pattern_names : (List ℕ → Bool) → List ℕ → Bool
pattern_names known s = every (names_item known) (items 0 s)
