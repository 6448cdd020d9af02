-- What reading gives: a value, or one refusal.
use Rattle.std.specs.Prelude.{ℕ, zero, suc, ◌+◌, List, [], ◌∷◌, reverse, Bool, true, false, not, take, eqb, if◌then◌else◌}
use Prim.Native.Char.{code}
use Rattle.scan.specs.Bytes.{run}
use Rattle.text.specs.declared.Refusal.{Refusal}

-- a refusal has its number and the place of the offending token
pub data Reading (A : Type 0) : Type 0 where
  Read : A → Reading A
  Refused : (number place : ℕ) → Reading A

infixl 10 ◌>>=◌
-- reads on, unless a refusal was given: "first offending token in reading order"
abbrev pub ◌>>=◌ : {A B : Type 0} → Reading A → (A → Reading B) → Reading B
Read a >>= f = f a
Refused n p >>= f = Refused n p

abbrev pub refuse_if : Bool → (number place : ℕ) → Reading (Unit {0})
refuse_if true n p = Refused n p
refuse_if false n p = Read tt

-- a fault's number, 0 where there is none
abbrev pub judged : (number place : ℕ) → Reading (Unit {0})
judged zero p = Read tt
judged (suc n) p = Refused (suc n) p

-- how many LFs
unfoldable pub feeds : List ℕ → ℕ
feeds [] = 0
feeds (b ∷ s) = if eqb b (code "\n") then suc (feeds s) else feeds s

-- "A line is 1 plus the LFs before the token; at the text's end, 1 plus all LFs."
unfoldable pub line_of : List ℕ → ℕ → ℕ
line_of s place = 1 + feeds (take place s)

abbrev pub not_feed : ℕ → Bool
not_feed b = not (eqb b (code "\n"))

-- "bytes since the last LF before the token's first byte, counted from 1; at the text's end, one past the last byte of that line": the
-- bytes before the place, from the last one back to an LF
unfoldable pub column_of : List ℕ → ℕ → ℕ
column_of s place = 1 + run not_feed (reverse (take place s))

-- "Every refusal from 4 to 10 shall carry the column too"
abbrev pub refusal_at : List ℕ → (number place : ℕ) → Refusal
refusal_at s n p = record { number = n; line = line_of s p; column = column_of s p }

-- "Lines 0 go with column 0."
abbrev pub nowhere : (number : ℕ) → Refusal
nowhere n = record { number = n; line = 0; column = 0 }
