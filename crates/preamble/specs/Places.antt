-- What the code's operators, values and preambles mean over the text.
use Rattle.std.specs.Prelude.{ℕ, zero, suc, ◌-◌, ◌<◌, min, ◌≡◌, List, ◌++◌, Bool, not, length, eqb, if◌then◌else◌, Option, Some, None, Result, Ok, Err}
use Rattle.scan.specs.Bytes.{is_empty}
use Rattle.text.specs.Reading.{Reading, Read, Refused, ◌>>=◌, refuse_if, judged}
use Rattle.text.specs.Places.{refused_by}
use Rattle.tokens.specs.Tokens.{no_stop, token_at, wanted}
use Rattle.pattern.specs.Expansions.{Variable}
use Rattle.pattern.specs.Faults.{value_fault}
use Rattle.pattern.specs.Table.{env, number_of, variables, values_of as held_values}
use Rattle.variables.specs.Added.{Added, room}
use Rattle.preamble.specs.Variables.{assigned, extended, values_of}
use Rattle.text.specs.declared.Stop.{Stop}
use Rattle.preamble.specs.Preamble.{Values, Operator, Assigned, Preamble, name_fault, usable, values_at}
use Rattle.preamble.specs.declared.Operator.{Operator as OperatorRead}
use Rattle.preamble.specs.declared.Values.{Values as ValuesRead}
use Rattle.preamble.specs.declared.Opened.{Opened}
use Rattle.preamble.specs.declared.Preamble.{Preamble as PreambleRead}

-- an operator; where there is none, the refusal of the token that stands after the name
unfoldable pub seen_operator : List ℕ → (after : ℕ) → Option OperatorRead → Reading Operator
seen_operator s after (Some o) = Read (record { adds = o.adds; next = o.next.0 })
seen_operator s after None = do
  t ← wanted (token_at no_stop s after)
  Refused 4 t.start

-- ---- values

-- the fault of the next value, where so many more are allowed
unfoldable pub next_fault : (left : ℕ) → List Variable → List ℕ → ℕ
next_fault zero vs s = if is_empty s then 4 else 9
next_fault (suc left) vs s = value_fault vs s

-- values read before others
unfoldable pub after : List (List ℕ) → Reading Values → Reading Values
after ws (Read v) = Read (record { values = ws ++ v.values; next = v.next })
after ws (Refused n p) = Refused n p

-- the values that variable w is given from a place on
abbrev pub given_to : (text vars : List ℕ) → (w at : ℕ) → Reading Values
given_to text vars w at = values_at (room vars w) (variables text vars w) text at

-- up to next these values were read and stored
pub record Upto (text old : List ℕ) (w at : ℕ) (new : List ℕ) (next : ℕ) (given : Bool) : Type 0 where
  pub values : List (List ℕ)
  pub added : Added text old new w values
  pub rest : given_to text old w at ≡ after values (values_at (room new w) (variables text old w) text next)
  pub some : given ≡ not (eqb (length values) 0)

-- the values that were read are stored, and some were, or none
pub record Stored (text old new : List ℕ) (w : ℕ) (x : Reading Values) (r : ValuesRead) : Type 0 where
  pub values : List (List ℕ)
  pub read : x ≡ Read (record { values = values; next = r.next.0 })
  pub added : Added text old new w values
  pub some : r.given ≡ not (eqb (length values) 0)

-- the values of variable w, or their refusal
abbrev pub Valued : (text old new : List ℕ) → (w : ℕ) → Reading Values → Result ValuesRead Stop → Type 0
Valued text old new w x (Ok r) = Stored text old new w x r
Valued text old new w x (Err stop) = x ≡ refused_by stop

-- ---- assignments

-- the variable that is given values: the one set, or a new one without values
pub record Opening (text new : List ℕ) (vs : List Variable) (adds : Bool) (name : List ℕ) (r : Opened) : Type 0 where
  pub low : r.w < 32
  pub number : number_of text new (min 32 r.count) name ≡ suc r.w
  pub before : usable vs adds name ≡ variables text new r.w
  pub values : values_of vs name ≡ held_values text new r.w
  pub result : (ws : List (List ℕ)) → assigned vs (record { name = name; adds = adds; values = ws }) ≡ extended (env text new r.count) name ws

-- an assignment after its values
abbrev pub after_values : (n : List ℕ) → (adds : Bool) → (sign : ℕ) → Values → Reading Assigned
after_values n adds sign vals = do
  _ ← refuse_if (eqb (length vals.values) 0) 4 sign
  Read (record { assignment = record { name = n; adds = adds; values = vals.values }; next = vals.next })

-- an assignment after its operator, where the name has no fault
unfoldable pub after_fault : List Variable → List ℕ → (n : List ℕ) → (sign : ℕ) → Operator → Reading Assigned
after_fault vs s n sign op = values_at (16 - length (values_of vs n)) (usable vs op.adds n) s op.next >>= after_values n op.adds sign

-- an assignment after its operator
unfoldable pub after_operator : List Variable → List ℕ → (n : List ℕ) → (start sign : ℕ) → Operator → Reading Assigned
after_operator vs s n start sign op = do
  _ ← judged (name_fault vs op.adds n) start
  after_fault vs s n sign op

-- ---- the preamble

-- the variables set, and where reading goes on
pub record State : Type 0 where
  pub variables : List Variable
  pub next : ℕ

unfoldable pub seen_preamble : (text vars : List ℕ) → Result PreambleRead Stop → Reading State
seen_preamble s t (Ok r) = Read (record { variables = env s t r.count; next = r.next.0 })
seen_preamble s t (Err stop) = refused_by stop

unfoldable pub assigned_of : List Variable → Reading Assigned → Reading State
assigned_of vs (Read a) = Read (record { variables = assigned vs a.assignment; next = a.next })
assigned_of vs (Refused n p) = Refused n p

unfoldable pub preamble_of : Reading Preamble → Reading State
preamble_of (Read p) = Read (record { variables = p.variables; next = p.next })
preamble_of (Refused n p) = Refused n p
