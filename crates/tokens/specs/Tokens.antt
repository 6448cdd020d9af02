-- The next token at a place of a text.
use Rattle.std.specs.Prelude.{ℕ, ◌+◌, List, [], ◌∷◌, Bool, true, false, not, ◌||◌, ◌&&◌, take, drop, eqb, if◌then◌else◌}
use Prim.Native.Char.{code}
use Rattle.scan.specs.Bytes.{same, begins, run}
use Rattle.text.specs.Reading.{Reading, Read, Refused}
use Rattle.blanks.specs.Blanks.{blank, hash, nul, standing}

abbrev pub quote : ℕ
quote = code "\""

abbrev pub comma : ℕ
comma = code ","

-- a token: its first byte's place, its bytes with quotes aside, and where reading goes on
pub record Token : Type 0 where
  pub start : ℕ
  pub content : List ℕ
  pub quoted : Bool
  pub next : ℕ

-- "Reading hands back the next token or the place where reading stopped, never both."; the text's end is such a place too, and no
-- refusal where nothing more is wanted
pub data Next : Type 0 where
  Found : Token → Next
  Stopped : (number place : ℕ) → Next
  End : (place : ℕ) → Next

-- what an unquoted token holds: a blank, # and NUL end it, and so does one byte more, the stop
abbrev pub plain : (stop : ℕ) → ℕ → Bool
plain stop b = not (blank b || eqb b hash || eqb b nul || eqb b quote || eqb b stop)

-- where a blank alone ends the token: NUL, which ends it anyway, is the stop
abbrev pub no_stop : ℕ
no_stop = nul

-- what a quoted token holds: "to the next quote on the same line", and no NUL
abbrev pub in_quotes : ℕ → Bool
in_quotes b = not (eqb b quote || eqb b (code "\n") || eqb b nul)

-- a quoted token at p with n bytes, by what follows them: "in quotes, or with the closing quote missing, the quoted token is 4"
abbrev pub quoted_token : (p n : ℕ) → List ℕ → Next
quoted_token p n s =
    if begins quote (drop n s) then Found (record { start = p; content = take n s; quoted = true; next = p + 1 + n + 1 }) else Stopped 4 p

-- an unquoted token at p with n bytes, by what follows them: "a quote inside an unquoted token is 4"
abbrev pub plain_token : (p n : ℕ) → List ℕ → Next
plain_token p n s =
    if begins quote (drop n s) then Stopped 4 p else Found (record { start = p; content = take n s; quoted = false; next = p + n })

-- what stands at p: "a NUL byte is itself 4", #include is 5, the stop is a token by itself
unfoldable pub token_from : (stop p : ℕ) → List ℕ → Next
token_from stop p [] = End p
token_from stop p (b ∷ s) =
    if eqb b nul then Stopped 4 p
    else if eqb b hash then Stopped 5 p
    else if eqb b quote then quoted_token p (run in_quotes s) s
    else if eqb b stop then Found (record { start = p; content = b ∷ []; quoted = false; next = p + 1 })
    else plain_token p (run (plain stop) (b ∷ s)) (b ∷ s)

unfoldable pub token_at : (stop : ℕ) → List ℕ → ℕ → Next
token_at stop s at = token_from stop (standing s at) (drop (standing s at) s)

-- a token where one is wanted; else the refusal, at the text's end 4
abbrev pub wanted : Next → Reading Token
wanted (Found t) = Read t
wanted (Stopped n p) = Refused n p
wanted (End p) = Refused 4 p

-- an unquoted token of these bytes
abbrev pub is_word : Token → (word : List ℕ) → Bool
is_word t w = not t.quoted && same t.content w
