-- The heads of profiles.
use Rattle.std.specs.Prelude.{ℕ, ◌+◌, List, Bool, true, false, not, ◌||◌, ◌&&◌, length, ltb}
use Prim.Native.Char.{code}
use Rattle.scan.specs.Bytes.{begins, bytes, same, some}
use Rattle.text.specs.Reading.{Reading, Read, Refused, ◌>>=◌, refuse_if}
use Rattle.tokens.specs.Tokens.{Token, no_stop, token_at, wanted}
use Rattle.blanks.specs.Blanks.{standing, stands_at}
use Rattle.keywords.specs.Keywords.{first_word, not_taken}
use Rattle.names.specs.Names.{name_form}
use Rattle.rule.specs.Rules.{if_word}

-- ---- "profile NAME {" or "/name {"

abbrev pub brace : ℕ
brace = code "{"

-- the token of a profile's name, "ending at a blank or {"; "without the word profile only /"
unfoldable pub name_at : List ℕ → ℕ → Reading Token
name_at s at =
    elim (if_word (bytes "profile") at (token_at no_stop s at)).found [
      | true ↦ do
        t ← wanted (token_at brace s (if_word (bytes "profile") at (token_at no_stop s at)).next)
        _ ← refuse_if (not (name_form t.quoted t.content)) 4 t.start
        Read t
      | false ↦ do
        t ← wanted (token_at brace s at)
        _ ← refuse_if (not (begins (code "/") t.content && name_form t.quoted t.content)) 4 t.start
        Read t
    ]

-- the { after a head's name, and where reading goes on: "any token but { after a head's name" is 5
unfoldable pub open_at : List ℕ → ℕ → Reading ℕ
open_at s at =
    elim (stands_at (bytes "{") s at) [
      | true ↦ Read (standing s at + 1)
      | false ↦ do
        t ← wanted (token_at no_stop s at)
        Refused 5 t.start
    ]

-- a head: its name and where its rules start. "Names over 255 bytes are 9; one profile too many is 9 at its name";
-- a name used twice is 10
pub record Head : Type 0 where
  pub name : List ℕ
  pub next : ℕ

unfoldable pub head_at : (full : Bool) → (used : List (List ℕ)) → List ℕ → ℕ → Reading Head
head_at full used s at = do
  _ ← refuse_if (first_word not_taken s at) 5 (standing s at)
  t ← name_at s at
  _ ← refuse_if (full || ltb 255 (length t.content)) 9 t.start
  _ ← refuse_if (some (same t.content) used) 10 t.start
  next ← open_at s t.next
  Read (record { name = t.content; next = next })
