-- The pieces of a pattern or value, and the uses of variables between them.
use Rattle.std.specs.Prelude.{ℕ, zero, suc, ◌-◌, List, [], ◌∷◌, not, ◌||◌, ◌&&◌, length, take, drop, eqb, ltb, if◌then◌else◌}
use Prim.Native.Char.{code}
use Rattle.scan.specs.Bytes.{begins, run}
use Rattle.class.specs.Class.{good_class}

-- "Pieces: a literal byte; ? one byte other than /; * any number of bytes other than /; ** any number of any bytes;
-- [ab], [a-c], [^a-c]": a class by what stands in its brackets
pub data Piece : Type 0 where
  Byte : ℕ → Piece
  One : Piece
  Star : Piece
  StarStar : Piece
  Class : List ℕ → Piece

-- ---- parts: pieces, uses of variables, and what is neither

pub data Part : Type 0 where
  Is : Piece → Part
  Use : List ℕ → Part
  Bad : Part

-- how many bytes stand up to the first c and with it; none where there is no c
unfoldable pub up_to : ℕ → List ℕ → ℕ
up_to c s = if ltb (run (λ b. not (eqb b c)) s) (length s) then suc (run (λ b. not (eqb b c)) s) else 0

-- "\ makes the next byte literal; at the end it is refused"
abbrev pub escaped : List ℕ → Part
escaped [] = Bad
escaped (c ∷ s) = Is (Byte c)

-- a class with its ], of n bytes in all; "an unmatched bracket" is refused
abbrev pub class_part : List ℕ → ℕ → Part
class_part s zero = Bad
class_part s (suc n) = if good_class (take n s) then Is (Class (take n s)) else Bad

-- "A variable's name runs from @{ to the next }. No such } is 7"
abbrev pub use_part : List ℕ → ℕ → Part
use_part s zero = Bad
use_part s (suc n) = Use (take (n - 1) (drop 1 s))

-- a part, and how many bytes after its first belong to it
pub record Start : Type 0 where
  pub is : Part
  pub more : ℕ

abbrev pub start : Part → ℕ → Start
start p n = record { is = p; more = n }

-- the part that starts with b, where s follows; "an unmatched bracket or brace, and ^ outside a class are 7.
-- @ without { is literal, and so is a comma outside braces."
unfoldable pub starting : ℕ → List ℕ → Start
starting b s =
    if eqb b (code "\\") then start (escaped s) (length (take 1 s))
    else if eqb b (code "?") then start (Is One) 0
    else if eqb b (code "*") then (if begins (code "*") s then start (Is StarStar) 1 else start (Is Star) 0)
    else if eqb b (code "[") then start (class_part s (up_to (code "]") s)) (up_to (code "]") s)
    else if eqb b (code "@") && begins (code "{") s then start (use_part s (up_to (code "}") s)) (up_to (code "}") s)
    else if eqb b (code "]") || eqb b (code "{") || eqb b (code "}") || eqb b (code "^") then start Bad 0
    else start (Is (Byte b)) 0

unfoldable pub part : ℕ → List ℕ → Part
part b s = (starting b s).is

unfoldable pub extra : ℕ → List ℕ → ℕ
extra b s = (starting b s).more

-- the parts after the first k bytes: "** first"
unfoldable pub parts : ℕ → List ℕ → List Part
parts k [] = []
parts (suc k) (b ∷ s) = parts k s
parts zero (b ∷ s) = part b s ∷ parts (extra b s) s
