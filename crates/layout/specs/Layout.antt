-- The bytes of an answer as C gets them.
use Rattle.std.specs.Prelude.{ℕ, ◌/◌, ◌%◌, List, [], ◌∷◌, ◌++◌, Result, Ok, Err}
use Rattle.perms.specs.declared.Perms.{Perms}
use Rattle.modes.specs.Modes.{execute_number}
use Rattle.text.specs.Reading.{nowhere}
use Rattle.text.specs.declared.Refusal.{Refusal}
use Rattle.answer.specs.declared.Answer.{Answer}

-- number, line and column are 0 where nothing is refused
abbrev pub refusal_of : Result (Unit {0}) Refusal → Refusal
refusal_of (Ok tt) = nowhere 0
refusal_of (Err r) = r

-- a number in four bytes, the lowest first
abbrev pub four_bytes : ℕ → List ℕ
four_bytes n = n % 256 ∷ n / 256 % 256 ∷ n / 65536 % 256 ∷ n / 16777216 % 256 ∷ []

-- byte 0 the refusal's number, 1 granted, 2 recorded, 3 the execute answer's number, 4 to 7 the line, 8 to 11 the column,
-- 12 the target's length
unfoldable pub head_of : Answer → List ℕ
head_of a =
    (refusal_of a.verdict).number
    ∷ a.granted.0
    ∷ a.recorded.0
    ∷ execute_number a.execute
    ∷ (four_bytes (refusal_of a.verdict).line ++ four_bytes (refusal_of a.verdict).column ++ (a.target.len % 256 ∷ []))

-- the same of its parts
abbrev pub head_by : Refusal → (granted recorded : Perms) → (execute len : ℕ) → List ℕ
head_by w g r e n = w.number ∷ g.0 ∷ r.0 ∷ e ∷ (four_bytes w.line ++ four_bytes w.column ++ (n % 256 ∷ []))

-- then the target's 255 bytes, zero beyond its length
unfoldable pub laid_out : Answer → List ℕ
laid_out a = head_of a ++ a.target.bytes
