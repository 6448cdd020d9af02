-- The size of a list of expansions: what the limits and the first / ask of all of them.
use Rattle.std.specs.Prelude.{ℕ, ◌+◌, ◌*◌, ◌≤◌, min, max, ◌≡◌, List, [], ◌∷◌, Bool, true, false, not, ◌||◌, ◌&&◌, length, get_or, set, eqb, ltb, if◌then◌else◌}
use Rattle.scan.specs.Bytes.{every, some}
use Rattle.pattern.specs.Pieces.{Piece, Part, parts}
use Rattle.pattern.specs.Items.{Item}
use Rattle.pattern.specs.Expansions.{Variable, listing, of_part, of_parts, one_of, of_name, of_item, longest, is_slash}
use Rattle.pattern.specs.Table.{of_number}
use Rattle.sizes.specs.declared.Size.{Size}

-- ---- the expansions of a part, a value or alternative, several of these, an item

module _ (vs : List Variable) where
  abbrev pub part_choices : Part → List (List Piece)
  part_choices p = of_part listing (of_name listing vs) p

  abbrev pub value_choices : List ℕ → List (List Piece)
  value_choices s = of_parts listing (of_name listing vs) (parts 0 s)

  abbrev pub one_choices : List (List ℕ) → List (List Piece)
  one_choices ss = one_of listing (of_name listing vs) ss

  abbrev pub item_choices : Item → List (List Piece)
  item_choices i = of_item listing (of_name listing vs) i

-- ---- sizes

-- no piece; no piece or a first /
abbrev pub is_nil : List Piece → Bool
is_nil [] = true
is_nil (p ∷ ps) = false

abbrev pub nil_or_slash : List Piece → Bool
nil_or_slash [] = true
nil_or_slash (p ∷ ps) = is_slash p

-- how many there are, up to 257, and the most pieces of one, up to 1025
unfoldable pub size_of : List (List Piece) → Size
size_of xs =
    record {
      count = min 257 (length xs);
      longest = min 1025 (longest xs);
      empty = some is_nil xs;
      slashed = every nil_or_slash xs;
    }

-- the size of neighbours: with no choice on one side there is none
abbrev pub limit_of : ℕ → ℕ → ℕ
limit_of n m = if eqb n 0 then 0 else min 1025 m

unfoldable pub times_of : Size → Size → Size
times_of a b =
    record {
      count = min 257 (min 257 a.count * min 257 b.count);
      longest = limit_of (min 257 a.count * min 257 b.count) (min 1025 a.longest + min 1025 b.longest);
      empty = a.empty && b.empty;
      slashed = eqb (min 257 a.count * min 257 b.count) 0 || (a.slashed && (not a.empty || b.slashed));
    }

-- the size of choices of two kinds
unfoldable pub plus_of : Size → Size → Size
plus_of a b =
    record {
      count = min 257 (min 257 a.count + min 257 b.count);
      longest = max (min 1025 a.longest) (min 1025 b.longest);
      empty = a.empty || b.empty;
      slashed = a.slashed && b.slashed;
    }

-- of no expansion
abbrev pub no_size : Size
no_size = record { count = 0; longest = 0; empty = false; slashed = true }

-- of one expansion with no piece
abbrev pub nil_size : Size
nil_size = record { count = 1; longest = 0; empty = true; slashed = true }

-- "256 expansions of one pattern, 1,024 pieces in an expansion"; "every expansion must begin with a literal /"
abbrev pub over_size : Size → Bool
over_size z = ltb 256 z.count || ltb 1024 z.longest

abbrev pub rooted_size : Size → Bool
rooted_size z = z.slashed && not z.empty

-- ---- the sizes of the variables of a table

-- row r: count, longest, and whether empty and slashed as 0 or 1
unfoldable pub size_at : List ℕ → ℕ → Size
size_at table r =
    record {
      count = get_or table (4 * r) 0;
      longest = get_or table (4 * r + 1) 0;
      empty = eqb (get_or table (4 * r + 2) 0) 1;
      slashed = eqb (get_or table (4 * r + 3) 0) 1;
    }

abbrev pub bit : Bool → ℕ
bit false = 0
bit true = 1

-- a size put into row r
unfoldable pub with_size : List ℕ → ℕ → Size → List ℕ
with_size table r z = set (set (set (set table (4 * r) z.count) (4 * r + 1) z.longest) (4 * r + 2) (bit z.empty)) (4 * r + 3) (bit z.slashed)

-- the sizes are right for the first n variables; row 0 is that of no such variable, row w + 1 that of variable w
pub record Known (text vars : List ℕ) (n : ℕ) (table : List ℕ) : Type 0 where
  pub right : (r : ℕ) → r ≤ min 32 n → size_at table r ≡ size_of (of_number listing text vars r)
