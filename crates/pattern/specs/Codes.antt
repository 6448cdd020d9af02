-- The numbers that stand for pieces in a buffer.
use Rattle.std.specs.Prelude.{ℕ, ◌-◌, List, [], ◌∷◌, Bool, true, not, ◌&&◌, take, drop, eqb, ltb, if◌then◌else◌}
use Prim.Native.Char.{code}
use Rattle.scan.specs.Bytes.{run}
use Rattle.pattern.specs.Pieces.{Piece, Byte, One, Star, StarStar, Class}

-- the bytes from a place up to before the next ]
abbrev pub not_close : ℕ → Bool
not_close b = not (eqb b (code "]"))

unfoldable pub bracketed : List ℕ → ℕ → List ℕ
bracketed text place = take (run not_close (drop place text)) (drop place text)

-- a byte is itself, then ?, * and **; a class is told by the place in the text of the first byte inside its brackets
unfoldable pub decode : (text : List ℕ) → ℕ → Piece
decode text c =
    if ltb c 256 then Byte c
    else if eqb c 256 then One
    else if eqb c 257 then Star
    else if eqb c 258 then StarStar
    else Class (bracketed text (c - 65536))

-- neighbouring literal slashes become one: after a slash, or not, no slash is kept
unfoldable pub joined_codes_after : Bool → List ℕ → List ℕ
joined_codes_after slash [] = []
joined_codes_after slash (c ∷ cs) =
    if slash && eqb c (code "/") then joined_codes_after true cs else c ∷ joined_codes_after (eqb c (code "/")) cs
