-- Which paths a pattern matches: the path is cut into one part for each piece of an expansion.
use Rattle.std.specs.Prelude.{ℕ, zero, suc, List, [], ◌∷◌, Bool, true, false, not, ◌&&◌, ◌||◌, length, take, drop, eqb}
use Prim.Native.Char.{code}
use Rattle.scan.specs.Bytes.{every, is_empty, some}
use Rattle.class.specs.Class.{in_class}
use Rattle.pattern.specs.Pieces.{Piece, Byte, One, Star, StarStar, Class}
use Rattle.pattern.specs.Expansions.{Variable, expansions, is_literal, joined}

-- one byte, of the kind p
abbrev pub single : (ℕ → Bool) → List ℕ → Bool
single p [] = false
single p (b ∷ s) = p b && is_empty s

abbrev pub no_slash : ℕ → Bool
no_slash b = not (eqb b (code "/"))

-- "a literal byte; ? one byte other than /; * any number, zero included, of bytes other than /; ** any number of any bytes;
-- [ab], [a-c] one listed byte; [^a-c] one byte not listed"
abbrev pub accepts : Piece → List ℕ → Bool
accepts (Byte c) s = single (λ b. eqb b c) s
accepts One s = single no_slash s
accepts Star s = every no_slash s
accepts StarStar s = true
accepts (Class k) s = single (in_class k) s

-- p holds of some number up to n
abbrev pub some_up_to : (ℕ → Bool) → ℕ → Bool
some_up_to p zero = p zero
some_up_to p (suc n) = some_up_to p n || p (suc n)

-- the pieces match all of the path: it is cut into a part that the first accepts and a rest that the others match
unfoldable pub matches : List Piece → List ℕ → Bool
matches [] s = is_empty s
matches (p ∷ ps) s = some_up_to (λ k. accepts p (take k s) && matches ps (drop k s)) (length s)

-- "A rule's pattern matches a path when some expansion matches all of it."
unfoldable pub matches_some : List Variable → List ℕ → List ℕ → Bool
matches_some vs pattern path = some (λ x. matches (joined x) path) (expansions vs pattern)

-- "It matches exactly when some such expansion is literals only."
unfoldable pub matches_exactly : List Variable → List ℕ → List ℕ → Bool
matches_exactly vs pattern path = some (λ x. every is_literal x && matches (joined x) path) (expansions vs pattern)
