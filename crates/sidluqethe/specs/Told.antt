-- What a caller from C is told: of reading, and of a rule.
use Rattle.std.specs.Prelude.{ℕ, ◌+◌, ◌*◌, ◌≡◌, List, ◌++◌, length, drop, ltb, if◌then◌else◌}
use Rattle.text.specs.Reading.{nowhere}
use Rattle.answer.specs.Answers.{refusal}
use Rattle.entries.specs.Entries.{Told, Short, Rejected, Accepted, numbers_in, numbers_of, policy_in, read_of}
use Rattle.flat.specs.Layout.{records_in, room_in}
use Rattle.layout.specs.Layout.{laid_out}
use Rattle.glob.specs.declared.Matched.{Matched}

-- a buffer of fewer bytes than an answer has is too short as well
unfoldable pub read_into : (buffer memory : ℕ) → (text : List ℕ) → Told
read_into buffer memory text = if ltb buffer 268 then Short else read_of memory (room_in memory) text

-- how many bytes are written
abbrev pub bytes_told : Told → ℕ
bytes_told Short = 0
bytes_told (Rejected r) = 268
bytes_told (Accepted p) = 268

-- the refusal, all 0 where the text is accepted, as an answer that grants nothing
abbrev pub told_in : (buffer : List ℕ) → Told → List ℕ
told_in buffer Short = buffer
told_in buffer (Rejected r) = laid_out (refusal r) ++ drop 268 buffer
told_in buffer (Accepted p) = laid_out (refusal (nowhere 0)) ++ drop 268 buffer

-- "Refused texts leave the table as found; records beyond the count are untouched."
abbrev pub FilledBy : (text memory : List ℕ) → Told → (memory' : List ℕ) → Type 0
FilledBy text memory Short memory' = memory' ≡ memory
FilledBy text memory (Rejected r) memory' = memory' ≡ memory
FilledBy text memory (Accepted p) memory' =
    (policy_in text memory' (records_in memory') ≡ p)
    × (numbers_in memory' ≡ numbers_of p)
    × (drop (1256 + 12 * length p.entries) memory' ≡ drop (1256 + 12 * length p.entries) memory)

-- 0 where nothing matches, 1 where something does, 2 where it does so exactly
abbrev pub match_number : Matched → ℕ
match_number m = if m.some then (if m.exact then 2 else 1) else 0
