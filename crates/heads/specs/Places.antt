-- What the code's values of heads mean over the text, and the names in the table of profiles.
use Rattle.std.specs.Prelude.{ℕ, zero, suc, ◌*◌, Bool, not, ◌||◌, ◌&&◌, List, [], ◌∷◌, Result, length, ltb}
use Prim.Native.Char.{code}
use Rattle.scan.specs.Bytes.{begins, same, some}
use Rattle.text.specs.Reading.{Reading, Read, ◌>>=◌, refuse_if}
use Rattle.text.specs.Places.{seen_by, span_of}
use Rattle.text.specs.declared.Place.{Place}
use Rattle.text.specs.declared.Stop.{Stop}
use Rattle.tokens.specs.Tokens.{Token, token_at, wanted}
use Rattle.pattern.specs.Table.{bytes_at}
use Rattle.names.specs.Names.{name_form}
use Rattle.heads.specs.Heads.{Head, brace, open_at}
use Rattle.heads.specs.declared.Head as code

-- the name at a place, a token that ends at a blank or {; rooted says that it must begin with /
unfoldable pub name_from : (rooted : Bool) → List ℕ → ℕ → Reading Token
name_from rooted s at = do
  t ← wanted (token_at brace s at)
  _ ← refuse_if (not ((not rooted || begins (code "/") t.content) && name_form t.quoted t.content)) 4 t.start
  Read t

-- a head, by the token of its name
unfoldable pub head_from : (full : Bool) → (used : List (List ℕ)) → List ℕ → Token → Reading Head
head_from full used s t = do
  _ ← refuse_if (full || ltb 255 (length t.content)) 9 t.start
  _ ← refuse_if (some (same t.content) used) 10 t.start
  next ← open_at s t.next
  Read (record { name = t.content; next = next })

-- what was read, or the refusal
abbrev pub seen_open : Result Place Stop → Reading ℕ
seen_open r = seen_by (λ p. p.0) r

abbrev pub seen_head : List ℕ → Result code.Head Stop → Reading Head
seen_head s r = seen_by (λ h. record { name = span_of s h.name; next = h.next.0 }) r

-- the names of the first n profiles, the last one in front
unfoldable pub names_of : (text t : List ℕ) → ℕ → List (List ℕ)
names_of text t zero = []
names_of text t (suc i) = bytes_at text t (4 * i) ∷ names_of text t i
