-- What the code's readings of parts and items stand for in a text.
use Rattle.std.specs.Prelude.{ℕ, ◌+◌, ◌≤◌, ◌≡◌, List, [], ◌∷◌, length, eqb, if◌then◌else◌}
use Prim.Native.Char.{code}
use Rattle.scan.specs.Bytes.{begins, span}
use Rattle.pattern.specs.Pieces.{Part, Is, Use, Bad, up_to, class_part, use_part}
use Rattle.pattern.specs.Places.{lone}
use Rattle.pattern.specs.Items.{Item, Single, Among, alternatives}
use Rattle.pattern.specs.Codes.{decode}
use Rattle.pattern.specs.declared.PieceRead.{PieceRead}
use Rattle.pattern.specs.declared.PieceRead.TheVariants as piece
use Rattle.pattern.specs.declared.PartRead.{PartRead}
use Rattle.pattern.specs.declared.PartRead.TheVariants as part
use Rattle.pattern.specs.declared.ItemRead.{ItemRead}
use Rattle.pattern.specs.declared.ItemRead.TheVariants as item

-- a piece's code
abbrev pub code_of : PieceRead → ℕ
code_of (piece.Byte b) = b
code_of piece.One = 256
code_of piece.Star = 257
code_of piece.StarStar = 258
code_of (piece.Class p) = 65536 + p

abbrev pub seen_part : (text : List ℕ) → PartRead → Part
seen_part text (part.Is p) = Is (decode text (code_of p))
seen_part text (part.Use a e) = Use (span text a e)
seen_part text part.Bad = Bad

-- the code of a piece that was read; 0 for what is none
abbrev pub code_in : PartRead → ℕ
code_in (part.Is p) = code_of p
code_in (part.Use a e) = 0
code_in part.Bad = 0

-- a part as it was read from a text: which part it is, and that its code names a place of the text
pub record Seen (text : List ℕ) (r : PartRead) (p : Part) : Type 0 where
  pub is : seen_part text r ≡ p
  pub fits : code_in r ≤ 65536 + length text

abbrev pub seen_item : (text : List ℕ) → ItemRead → Item
seen_item text (item.Single p) = Single (seen_part text p)
seen_item text (item.Among a e) = Among (alternatives (span text a e))

-- ---- how a part is read

abbrev pub escape_of : List ℕ → PartRead
escape_of [] = part.Bad
escape_of (c ∷ s) = part.Is (piece.Byte c)

abbrev pub star_of : List ℕ → PieceRead
star_of s = if begins (code "*") s then piece.StarStar else piece.Star

abbrev pub single_of : ℕ → PartRead
single_of b = if eqb b (code "?") then part.Is piece.One else if lone b then part.Bad else part.Is (piece.Byte b)

abbrev pub class_after : List ℕ → Part
class_after s = class_part s (up_to (code "]") s)

abbrev pub use_after : List ℕ → Part
use_after s = use_part s (up_to (code "}") s)
