-- What the code's places and refusals mean over the text.
use Rattle.std.specs.Prelude.{ℕ, List, Result, Ok, Err}
use Rattle.scan.specs.Bytes.{span}
use Rattle.text.specs.Reading.{Reading, Read, Refused}
use Rattle.text.specs.declared.Place.{Place}
use Rattle.text.specs.declared.Span.{Span}
use Rattle.text.specs.declared.Stop.{Stop}

abbrev pub place : ℕ → Place
place i = record { 0 = i }

-- the bytes of a span
abbrev pub span_of : List ℕ → Span → List ℕ
span_of s p = span s p.from.0 p.end.0

-- a refusal as reading gives it
abbrev pub refused_by : {A : Type 0} → Stop → Reading A
refused_by r = Refused r.number r.place.0

-- what was read, where this is its meaning, or the refusal
abbrev pub seen_by : {A B : Type 0} → (A → B) → Result A Stop → Reading B
seen_by f (Ok x) = Read (f x)
seen_by f (Err stop) = refused_by stop
