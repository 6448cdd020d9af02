-- Assignments and the variables they set.
use Rattle.std.specs.Prelude.{ℕ, List, [], ◌∷◌, ◌++◌, Bool, true, false, if◌then◌else◌}
use Rattle.scan.specs.Bytes.{same}
use Rattle.pattern.specs.Expansions.{Variable}

-- an assignment: += adds values to a name that is set, = sets a name
pub record Assignment : Type 0 where
  pub name : List ℕ
  pub adds : Bool
  pub values : List (List ℕ)

-- the values of a name, none where it is not set
unfoldable pub values_of : List Variable → List ℕ → List (List ℕ)
values_of [] n = []
values_of (v ∷ vs) n = elim (same v.name n) [ true ↦ v.values | false ↦ values_of vs n ]

-- the variables first set before a name that is set
unfoldable pub set_before : List Variable → List ℕ → List Variable
set_before [] n = []
set_before (v ∷ vs) n = elim (same v.name n) [ true ↦ vs | false ↦ set_before vs n ]

-- the variables with values added to one
unfoldable pub extended : List Variable → List ℕ → List (List ℕ) → List Variable
extended [] n ws = []
extended (v ∷ vs) n ws =
    elim (same v.name n) [
      | true ↦ record { name = n; values = v.values ++ ws } ∷ vs
      | false ↦ v ∷ extended vs n ws
    ]

-- the variables after one assignment more, the one first set last in front
unfoldable pub assigned : List Variable → Assignment → List Variable
assigned vs a =
    if a.adds then extended vs a.name a.values
    else record { name = a.name; values = a.values } ∷ vs

-- "All uses read the final sets": the variables after a whole preamble
unfoldable pub final_sets : List Variable → List Assignment → List Variable
final_sets vs [] = vs
final_sets vs (a ∷ more) = final_sets (assigned vs a) more
