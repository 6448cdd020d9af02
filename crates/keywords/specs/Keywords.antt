-- Statements of other kinds, by their first words.
use Rattle.std.specs.Prelude.{ℕ, List, [], ◌∷◌, Bool, true, false, not, ◌||◌, ◌&&◌, take, eqb}
use Prim.Native.Char.{code}
use Prim.Native.String.{String}
use Rattle.scan.specs.Bytes.{between, bytes, same, some}
use Rattle.tokens.specs.Tokens.{Next, Found, Stopped, End, token_at, comma}

-- "its unquoted first word is one of these fixed words"
abbrev pub fixed_words : List String
fixed_words =
    "include" ∷ "abi" ∷ "alias" ∷ "capability" ∷ "network" ∷ "mount" ∷ "remount" ∷ "umount" ∷ "pivot_root" ∷ "ptrace" ∷ "signal" ∷ "dbus"
    ∷ "unix" ∷ "change_profile" ∷ "set" ∷ "link" ∷ "hat" ∷ "file" ∷ "mqueue" ∷ "io_uring" ∷ "userns" ∷ "all" ∷ "priority" ∷ []

-- "or starts with ^ or priority="
unfoldable pub not_taken : List ℕ → Bool
not_taken w = some (λ k. same w (bytes k)) fixed_words || same (take 1 w) (bytes "^") || same (take 9 w) (bytes "priority=")

-- what a statement may not start with, inside a profile and outside: "likewise `profile` inside a profile"
abbrev pub barred : (inside : Bool) → List ℕ → Bool
barred true w = not_taken w || same w (bytes "profile")
barred false w = not_taken w

-- an unquoted token of the kind p
abbrev pub word_is : (List ℕ → Bool) → Next → Bool
word_is p (Found t) = not t.quoted && p t.content
word_is p (Stopped n q) = false
word_is p (End q) = false

-- the first word at a place is of the kind p: "a first word ends at a blank or comma"
abbrev pub first_word : (List ℕ → Bool) → List ℕ → ℕ → Bool
first_word p s at = word_is p (token_at comma s at)

-- ---- the words in code

-- a text begins with a byte that these words begin with
abbrev pub opening : List ℕ → Bool
opening [] = false
opening (b ∷ s) = between (code "a") (code "z") b || eqb b (code "^")
