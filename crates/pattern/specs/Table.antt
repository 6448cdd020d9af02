-- The table of variables, as numbers that are lent: variable w has the places of its name at 2 * w, the number of its values at 64 + w,
-- and the places of value k at 96 + 2 * (16 * w + k).
use Rattle.std.specs.Prelude.{ℕ, zero, suc, ◌+◌, ◌*◌, min, List, [], ◌∷◌, true, false, get_or}
use Rattle.scan.specs.Bytes.{same, span}
use Rattle.pattern.specs.Expansions.{Variable, Choices, one_of, of_name}

-- the bytes of the text whose start and end stand at a place of the table
abbrev pub bytes_at : (text vars : List ℕ) → ℕ → List ℕ
bytes_at text vars i = span text (get_or vars i 0) (get_or vars (i + 1) 0)

-- k values from value i of the table on
unfoldable pub values_from : (text vars : List ℕ) → (k i : ℕ) → List (List ℕ)
values_from text vars zero i = []
values_from text vars (suc k) i = bytes_at text vars (96 + 2 * i) ∷ values_from text vars k (i + 1)

-- the values of variable w: at most 16
abbrev pub values_of : (text vars : List ℕ) → ℕ → List (List ℕ)
values_of text vars w = values_from text vars (min 16 (get_or vars (64 + w) 0)) (16 * w)

-- the first n variables, the last one in front
unfoldable pub variables : (text vars : List ℕ) → ℕ → List Variable
variables text vars zero = []
variables text vars (suc w) = record { name = bytes_at text vars (2 * w); values = values_of text vars w } ∷ variables text vars w

-- the variables of a table that holds n: at most 32
abbrev pub env : (text vars : List ℕ) → ℕ → List Variable
env text vars n = variables text vars (min 32 n)

-- the number of a name among the first n variables: w + 1 for the last w of that name, 0 where there is none
unfoldable pub number_of : (text vars : List ℕ) → ℕ → List ℕ → ℕ
number_of text vars zero name = 0
number_of text vars (suc w) name = elim (same (bytes_at text vars (2 * w)) name) [ true ↦ suc w | false ↦ number_of text vars w name ]

-- what the name of a number stands for
abbrev pub of_number : {A : Type 0} → Choices A → (text vars : List ℕ) → ℕ → A
of_number D text vars zero = D.none
of_number D text vars (suc w) = one_of D (of_name D (variables text vars w)) (values_of text vars w)
