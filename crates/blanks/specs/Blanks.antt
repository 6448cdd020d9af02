-- Blanks and comments, and what stands next at a place of a text.
use Rattle.std.specs.Prelude.{ℕ, zero, suc, ◌+◌, List, [], ◌∷◌, Bool, not, ◌||◌, ◌&&◌, take, drop, eqb, if◌then◌else◌}
use Prim.Native.Char.{code}
use Rattle.scan.specs.Bytes.{bytes, run, same, starts_with}

abbrev pub nul : ℕ
nul = code "\0"

abbrev pub hash : ℕ
hash = code "#"

-- "Blank is space, tab, CR, LF."
abbrev pub in_line : ℕ → Bool
in_line b = eqb b (code " ") || eqb b (code "\t") || eqb b (code "\r")

abbrev pub blank : ℕ → Bool
blank b = in_line b || eqb b (code "\n")

-- "a comment that starts #include"
unfoldable pub includes : List ℕ → Bool
includes s = same (take 8 s) (bytes "#include")

-- "# starts a comment to the line's end": what follows the #; a NUL is no part of it
abbrev pub in_comment : ℕ → Bool
in_comment b = not (eqb b (code "\n") || eqb b nul)

-- how many bytes from the front are blanks and comments, #include aside, where the first k are known to be
unfoldable pub skip : (k : ℕ) → List ℕ → ℕ
skip k [] = 0
skip (suc k) (b ∷ s) = suc (skip k s)
skip zero (b ∷ s) =
    if blank b then suc (skip 0 s)
    else if eqb b hash && not (includes (b ∷ s)) then suc (skip (run in_comment s) s)
    else 0

-- the place of what stands next
abbrev pub standing : List ℕ → ℕ → ℕ
standing s at = at + skip 0 (drop at s)

-- what stands at a place begins with these bytes
abbrev pub stands_at : (word : List ℕ) → List ℕ → ℕ → Bool
stands_at w s at = starts_with w (drop (standing s at) s)
