-- What one step of the walk over a path says of a piece.
use Rattle.std.specs.Prelude.{ℕ, suc, List, [], ◌∷◌, Bool, true, false, not, ◌&&◌, ◌||◌, length, take, drop, get_or, eqb, leb, if◌then◌else◌}
use Rattle.class.specs.Class.{in_class}
use Rattle.pattern.specs.Pieces.{Piece, Byte, One, Star, StarStar, Class}
use Rattle.pattern.specs.Codes.{decode}
use Rattle.matcher.specs.Match.{accepts, no_slash, some_up_to}

-- a piece takes any number of bytes, or one
abbrev pub repeats_of : Piece → Bool
repeats_of (Byte c) = false
repeats_of One = false
repeats_of Star = true
repeats_of StarStar = true
repeats_of (Class k) = false

-- and of which kind
abbrev pub takes_of : Piece → ℕ → Bool
takes_of (Byte c) b = eqb b c
takes_of One b = no_slash b
takes_of Star b = no_slash b
takes_of StarStar b = true
takes_of (Class k) b = in_class k b

-- a piece is no star and takes a byte
abbrev pub takes_one : Piece → ℕ → Bool
takes_one p b = not (repeats_of p) && takes_of p b

-- how many pieces from the front are no stars and take the byte of the path at their place
unfoldable pub taken : (text codes path : List ℕ) → ℕ
taken text [] s = 0
taken text (c ∷ cs) [] = 0
taken text (c ∷ cs) (b ∷ s) = if takes_one (decode text c) b then suc (taken text cs s) else 0

-- the mark of a place after a piece, by those at the place before it and at it, and the new mark before it
abbrev pub mark_of : (many before here carried ok : Bool) → Bool
mark_of true before here carried ok = (carried && ok) || here
mark_of false before here carried ok = before && ok

-- place i is alive after the piece p: p accepts what stands between some place alive before and i
unfoldable pub after : Piece → List ℕ → List Bool → ℕ → Bool
after p s m i = some_up_to (λ j. get_or m j false && accepts p (drop j (take i s))) i

-- "Path 4,095 passes, 4,096 is 2"
abbrev pub path_fits : List ℕ → Bool
path_fits s = leb (length s) 4095
