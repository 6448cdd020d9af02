-- What a request may not be: refusals 2 and 3.
use Rattle.std.specs.Prelude.{ℕ, List, [], ◌∷◌, Bool, false, not, ◌||◌, ◌&&◌, length, eqb, ltb}
use Prim.Native.Char.{code}
use Rattle.scan.specs.Bytes.{begins, holds, is_empty}
use Rattle.blanks.specs.Blanks.{nul}

unfoldable pub doubled : List ℕ → Bool
doubled [] = false
doubled (b ∷ s) = (eqb b (code "/") && begins (code "/") s) || doubled s

-- refusal 2: "path empty, over 4,095 bytes, not starting /, holding NUL or //"
unfoldable pub bad_path : List ℕ → Bool
bad_path s = is_empty s || ltb 4095 (length s) || not (begins (code "/") s) || holds nul s || doubled s

-- refusal 3: "asked set 0 or over 127"
abbrev pub bad_asked : ℕ → Bool
bad_asked n = eqb n 0 || ltb 127 n
