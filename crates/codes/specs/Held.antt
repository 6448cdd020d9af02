-- The first literals of an expansion, held to a path piece by piece.
use Rattle.std.specs.Prelude.{ℕ, suc, List, [], ◌∷◌, Bool, true, false, ◌&&◌, ◌||◌, length, get_or, eqb, ltb, if◌then◌else◌}
use Prim.Native.Char.{code}
use Rattle.pattern.specs.Pieces.{Piece, Byte, One, Star, StarStar, Class}
use Rattle.codes.specs.declared.Held.{Held}

-- all up to a place of the path were literals that agree with it, where a / stands before, or not
abbrev pub held_from : (at : ℕ) → (slash : Bool) → Held
held_from at slash = record { at = at; slash = slash; wild = false; gone = false }

-- nothing was held yet
abbrev pub held_none : (slash : Bool) → Held
held_none slash = held_from 0 slash

-- "neighbouring literal / become one": a literal is passed over, is the path's next byte, or differs
unfoldable pub held_byte : (path : List ℕ) → Held → ℕ → Held
held_byte path h c =
    if h.slash && eqb c (code "/") then h
    else if ltb h.at (length path) && eqb (get_or path h.at 0) c then held_from (suc h.at) (eqb c (code "/"))
    else record { at = h.at; slash = h.slash; wild = false; gone = true }

abbrev pub held_wild : Held → Held
held_wild h = record { at = h.at; slash = h.slash; wild = true; gone = false }

-- behind a piece that is no literal, and one that differed, nothing is held
unfoldable pub held_piece : (path : List ℕ) → Held → Piece → Held
held_piece path h (Byte c) = if h.wild || h.gone then h else held_byte path h c
held_piece path h One = if h.wild || h.gone then h else held_wild h
held_piece path h Star = if h.wild || h.gone then h else held_wild h
held_piece path h StarStar = if h.wild || h.gone then h else held_wild h
held_piece path h (Class k) = if h.wild || h.gone then h else held_wild h

unfoldable pub held_pieces : (path : List ℕ) → Held → List Piece → Held
held_pieces path h [] = h
held_pieces path h (p ∷ ps) = held_pieces path (held_piece path h p) ps

-- a literal among the first ones differs from the path
abbrev pub differs : (slash : Bool) → (path : List ℕ) → List Piece → Bool
differs slash path ps = (held_pieces path (held_none slash) ps).gone
