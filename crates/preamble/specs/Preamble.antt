-- The assignments in front of the profiles.
use Rattle.std.specs.Prelude.{ℕ, zero, suc, ◌+◌, ◌-◌, List, [], ◌∷◌, Bool, true, false, not, ◌||◌, length, take, drop, eqb, leb, if◌then◌else◌}
use Prim.Native.Char.{code}
use Rattle.scan.specs.Bytes.{begins, bytes, is_empty, run, same, span}
use Rattle.text.specs.Reading.{Reading, Read, Refused, ◌>>=◌, refuse_if, judged}
use Rattle.names.specs.Names.{variable_fault}
use Rattle.blanks.specs.Blanks.{blank, hash, in_line, nul, standing, stands_at}
use Rattle.tokens.specs.Tokens.{Token, no_stop, token_at, wanted}
use Rattle.pattern.specs.Expansions.{Variable, is_set}
use Rattle.pattern.specs.Faults.{value_fault}
use Rattle.preamble.specs.Variables.{Assignment, values_of, set_before, assigned}

-- ---- values, "up to the line's end"

pub record Values : Type 0 where
  pub values : List (List ℕ)
  pub next : ℕ

-- the place of what stands next in the line
abbrev pub in_line_at : List ℕ → ℕ → ℕ
in_line_at s at = at + run in_line (drop at s)

-- no value stands there: the line or the text ends, or a comment begins
abbrev pub line_ends : List ℕ → Bool
line_ends [] = true
line_ends (b ∷ s) = eqb b (code "\n") || eqb b hash

-- what is done with the value that stands next in the line, if one does
abbrev pub value_then : (Token → Reading Values) → List ℕ → ℕ → Reading Values
value_then f s at =
    elim (line_ends (drop (in_line_at s at) s)) [
      | true ↦ Read (record { values = []; next = in_line_at s at })
      | false ↦ wanted (token_at no_stop s (in_line_at s at)) >>= f
    ]

-- the values from a place on, where so many more are allowed; they use the variables vs. One too many is 9, unless it is empty
unfoldable pub values_at : (left : ℕ) → List Variable → List ℕ → ℕ → Reading Values
values_at zero vs s at = value_then (λ t. refuse_if (is_empty t.content) 4 t.start >>= λ _. Refused 9 t.start) s at
values_at (suc left) vs s at =
    value_then
    (λ t. do
      _ ← judged (value_fault vs t.content) t.start
      more ← values_at left vs s t.next
      Read (record { values = t.content ∷ more.values; next = more.next }))
    s at

-- ---- names and operators

pub record Operator : Type 0 where
  pub adds : Bool
  pub next : ℕ

-- "then = or +=, blanks but LF free around it"; anything else is 4 at the token there
unfoldable pub operator_from : List ℕ → ℕ → ℕ → Reading Operator
operator_from s at p =
    elim (begins (code "=") (drop p s)) [
      | true ↦ Read (record { adds = false; next = p + 1 })
      | false ↦ elim (same (take 2 (drop p s)) (bytes "+=")) [
        | true ↦ Read (record { adds = true; next = p + 2 })
        | false ↦ do
          t ← wanted (token_at no_stop s at)
          Refused 4 t.start
      ]
    ]

-- "= on a set name and += on an unset one, both at the name: 6"; "one variable too many is 9 at its name"
abbrev pub name_fault : List Variable → (adds : Bool) → List ℕ → ℕ
name_fault vs adds n =
    if adds then (if is_set vs n then 0 else 6)
    else if is_set vs n then 6
    else if leb 32 (length vs) then 9
    else 0

-- "A value may use only names first set earlier than the name it is given to"
abbrev pub usable : List Variable → (adds : Bool) → List ℕ → List Variable
usable vs adds n = if adds then set_before vs n else vs

pub record Assigned : Type 0 where
  pub assignment : Assignment
  pub next : ℕ

-- an assignment after its name n, which stands from start to before end
unfoldable pub after_name : List Variable → List ℕ → (n : List ℕ) → (start end : ℕ) → Reading Assigned
after_name vs s n start end =
    let sign : ℕ = in_line_at s (end + 1) in
    do
      op ← operator_from s (end + 1) sign
      _ ← judged (name_fault vs op.adds n) start
      vals ← values_at (16 - length (values_of vs n)) (usable vs op.adds n) s op.next
      _ ← refuse_if (eqb (length vals.values) 0) 4 sign
      Read (record { assignment = record { name = n; adds = op.adds; values = vals.values }; next = vals.next })

-- what an assigned name holds: "its name runs to the next }", and a blank, # and NUL end it before that
abbrev pub in_name : ℕ → Bool
in_name b = not (blank b || eqb b hash || eqb b nul || eqb b (code "}"))

-- the assignment at a place where @{ stands: "a blank, #, NUL or the end before that is 4 at the @{"; "An assigned variable's name begins
-- after its @{", and all that is wrong with the name is told there
unfoldable pub assignment_at : List Variable → List ℕ → ℕ → Reading Assigned
assignment_at vs s at =
    let start : ℕ = standing s at + 2 in
    let end : ℕ = start + run in_name (drop start s) in
    do
      _ ← refuse_if (not (begins (code "}") (drop end s))) 4 (standing s at)
      _ ← judged (variable_fault (span s start end)) start
      after_name vs s (span s start end) start end

-- ---- the preamble

pub record Preamble : Type 0 where
  pub assignments : List Assignment
  pub variables : List Variable
  pub next : ℕ

-- what is done with the assignment that stands at a place, if one does: "Outside profiles @{ starts one"
abbrev pub assignment_then : (Assigned → Reading Preamble) → List Variable → List ℕ → ℕ → Reading Preamble
assignment_then f vs s at =
    elim (stands_at (bytes "@{") s at) [
      | true ↦ assignment_at vs s at >>= f
      | false ↦ Read (record { assignments = []; variables = vs; next = at })
    ]

-- the assignments from a place on, where so many more are allowed. Each gives a value or more, so 32 variables of 16 values
-- leave room for 512, and no text is refused for one assignment too many.
unfoldable pub preamble_at : (left : ℕ) → List Variable → List ℕ → ℕ → Reading Preamble
preamble_at zero vs s at = assignment_then (λ _. Refused 9 (standing s at)) vs s at
preamble_at (suc left) vs s at =
    assignment_then
    (λ a. do
      more ← preamble_at left (assigned vs a.assignment) s a.next
      Read (record { assignments = a.assignment ∷ more.assignments; variables = more.variables; next = more.next }))
    vs s at
