-- What is written of an expansion to a buffer, and what is asked of who writes it.
use Rattle.std.specs.Prelude.{ℕ, Option, ◌≤◌, ◌≡◌, List, ◌++◌, map, Bool, true, false, length, take, leb}
use Rattle.std.specs.Option.{MatchOption}
use Rattle.pattern.specs.Pieces.{Piece}
use Rattle.pattern.specs.Codes.{decode}
use Rattle.codes.specs.Held.{differs}

-- a text that is refused by no. 1 has more bytes
abbrev pub text_fits : List ℕ → Bool
text_fits s = leb (length s) 65535

-- the text is short, and the buffer has its first m places
pub record Asked (text out : List ℕ) (m : ℕ) : Type 0 where
  pub short : length text ≤ 65535
  pub room : m ≤ length out

-- xs stands in the buffer after its first m places, as far as there is room, and r says where it ends
pub record Wrote (text out : List ℕ) (m : ℕ) (end : List ℕ) (r : ℕ) (xs : List Piece) : Type 0 where
  pub size : length end ≡ length out
  pub fits : r ≤ length out
  pub all : map (decode text) (take r end) ≡ take (length out) (map (decode text) (take m out) ++ xs)

-- the buffer begins with an expansion, as far as there is room
pub record Written (text out end : List ℕ) (r : ℕ) (xs : List Piece) : Type 0 where
  pub size : length end ≡ length out
  pub fits : r ≤ length out
  pub all : map (decode text) (take r end) ≡ take (length out) xs

-- an expansion is written, and one of which a literal among the first differs from the path is given up
pub record Drafted (text out end : List ℕ) (slash : Bool) (path : List ℕ) (r : Option ℕ) (xs : List Piece) : Type 0 where
  pub gone : MatchOption r (differs slash path (take (length out) xs) ≡ true) (λ n. differs slash path (take (length out) xs) ≡ false)
  pub written : MatchOption r (length end ≡ length out) (λ n. Written text out end n xs)
