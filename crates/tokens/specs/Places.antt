-- What the code's tokens mean over the text.
use Rattle.std.specs.Prelude.{ℕ, List, Result}
use Rattle.scan.specs.Bytes.{span}
use Rattle.text.specs.Reading.{Reading}
use Rattle.text.specs.Places.{seen_by}
use Rattle.text.specs.declared.Stop.{Stop}
use Rattle.tokens.specs.Tokens.{Token, Next, Found, Stopped, End}
use Rattle.tokens.specs.declared.Token as code
use Rattle.tokens.specs.declared.Read.{Read}
use Rattle.tokens.specs.declared.Read.TheVariants as read

-- a token with its bytes instead of their places
abbrev pub token_of : List ℕ → code.Token → Token
token_of s t = record { start = t.start.0; content = span s t.from.0 t.end.0; quoted = t.quoted; next = t.next.0 }

-- the next token, or where reading stopped
unfoldable pub seen : List ℕ → Read → Next
seen s (read.Found t) = Found (token_of s t)
seen s (read.Stopped stop) = Stopped stop.number stop.place.0
seen s (read.End p) = End p.0

-- the refusal where another token was wanted: the one that stopped reading, else 4 at the token or at the text's end
unfoldable pub stop_of : Read → Stop
stop_of (read.Found t) = record { number = 4; place = t.start }
stop_of (read.Stopped stop) = stop
stop_of (read.End p) = record { number = 4; place = p }

-- a token where one is wanted, or the refusal
abbrev pub seen_token : List ℕ → Result code.Token Stop → Reading Token
seen_token s r = seen_by (token_of s) r
