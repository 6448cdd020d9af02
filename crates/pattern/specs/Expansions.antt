-- The expansions of a pattern: every choice of values and alternatives.
use Rattle.std.specs.Prelude.{ℕ, ◌+◌, ◌*◌, max, List, [], ◌∷◌, ◌++◌, map, Bool, true, false, ◌&&◌, length, eqb, if◌then◌else◌}
use Prim.Native.Char.{code}
use Rattle.scan.specs.Bytes.{same, some}
use Rattle.pattern.specs.Pieces.{Piece, Byte, One, Star, StarStar, Class, Part, Is, Use, Bad, parts}
use Rattle.pattern.specs.Items.{Item, Single, Among, items}

-- a variable and its values, as bytes
pub record Variable : Type 0 where
  pub name : List ℕ
  pub values : List (List ℕ)

-- a list of variables has the one first set last in front, so that a variable's values use those behind it

-- the name is set
unfoldable pub is_set : List Variable → List ℕ → Bool
is_set vs n = some (λ (v : Variable). same v.name n) vs

-- what choices are put together in: a piece, no piece, neighbours, no choice, choices of two kinds
pub record Choices (A : Type 0) : Type 0 where
  pub piece : Piece → A
  pub empty : A
  pub beside : A → A → A
  pub none : A
  pub either : A → A → A

-- "every variable occurrence and every alternation chooses on its own; the chosen pieces are put end to end.
-- A variable in an alternative not taken makes no choice."
module _ {A : Type 0} (D : Choices A) where
  -- f gives the choices of a name
  abbrev pub of_part : (List ℕ → A) → Part → A
  of_part f (Is p) = D.piece p
  of_part f (Use n) = f n
  of_part f Bad = D.none

  unfoldable pub of_parts : (List ℕ → A) → List Part → A
  of_parts f [] = D.empty
  of_parts f (t ∷ ts) = D.beside (of_part f t) (of_parts f ts)

  -- one of several values or alternatives
  unfoldable pub one_of : (List ℕ → A) → List (List ℕ) → A
  one_of f [] = D.none
  one_of f (s ∷ ss) = D.either (of_parts f (parts 0 s)) (one_of f ss)

  -- a name stands for one of its variable's values
  unfoldable pub of_name : List Variable → List ℕ → A
  of_name [] n = D.none
  of_name (v ∷ vs) n = elim (same v.name n) [ true ↦ one_of (of_name vs) v.values | false ↦ of_name vs n ]

  abbrev pub of_item : (List ℕ → A) → Item → A
  of_item f (Single t) = of_part f t
  of_item f (Among ss) = one_of f ss

  unfoldable pub of_items : (List ℕ → A) → List Item → A
  of_items f [] = D.empty
  of_items f (i ∷ is) = D.beside (of_item f i) (of_items f is)

  abbrev pub of_pattern : List Variable → List ℕ → A
  of_pattern vs s = of_items (of_name vs) (items 0 s)

-- each of the first list's before each of the second's, the second's turning slowest
unfoldable pub across : List (List Piece) → List (List Piece) → List (List Piece)
across xs [] = []
across xs (t ∷ ts) = map (λ x. x ++ t) xs ++ across xs ts

-- the choices as the list of all expansions
abbrev pub listing : Choices (List (List Piece))
listing = record { piece = λ p. (p ∷ []) ∷ []; empty = [] ∷ []; beside = across; none = []; either = λ a b. a ++ b }

unfoldable pub expansions : List Variable → List ℕ → List (List Piece)
expansions vs s = of_pattern listing vs s

-- the choices as their number: "every choice counted"
abbrev pub counting : Choices ℕ
counting = record { piece = λ p. 1; empty = 1; beside = λ a b. a * b; none = 0; either = λ a b. a + b }

unfoldable pub count : List Variable → List ℕ → ℕ
count vs s = of_pattern counting vs s

-- the most pieces of an expansion, "before slashes join"
unfoldable pub longest : List (List Piece) → ℕ
longest [] = 0
longest (x ∷ xs) = max (length x) (longest xs)

abbrev pub is_slash : Piece → Bool
is_slash (Byte c) = eqb c (code "/")
is_slash One = false
is_slash Star = false
is_slash StarStar = false
is_slash (Class s) = false

abbrev pub is_literal : Piece → Bool
is_literal (Byte c) = true
is_literal One = false
is_literal Star = false
is_literal StarStar = false
is_literal (Class k) = false

abbrev pub begins_slash : List Piece → Bool
begins_slash [] = false
begins_slash (p ∷ ps) = is_slash p

-- "Then neighbouring literal / become one": after a slash, or not, no slash is kept
unfoldable pub joined_after : Bool → List Piece → List Piece
joined_after slash [] = []
joined_after slash (p ∷ ps) = if slash && is_slash p then joined_after true ps else p ∷ joined_after (is_slash p) ps

abbrev pub joined : List Piece → List Piece
joined ps = joined_after false ps
