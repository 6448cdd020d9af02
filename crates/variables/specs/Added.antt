-- What a step changes in the table of variables.
use Rattle.std.specs.Prelude.{ℕ, suc, ◌+◌, ◌*◌, ◌-◌, ◌<◌, min, ◌≡◌, List, [], ◌∷◌, ◌++◌, ◌&&◌, get_or, set, ltb, if◌then◌else◌}
use Rattle.scan.specs.Bytes.{span}
use Rattle.pattern.specs.Table.{bytes_at, values_of, variables}

-- how many values variable w has
abbrev pub held_by : (vars : List ℕ) → ℕ → ℕ
held_by vars w = min 16 (get_or vars (64 + w) 0)

-- how many more it may have
abbrev pub room : (vars : List ℕ) → ℕ → ℕ
room vars w = 16 - held_by vars w

-- ---- the table after a step

-- three places stored
abbrev pub three_set : List ℕ → (i j k x y z : ℕ) → List ℕ
three_set t i j k x y z = set (set (set t i x) j y) k z

-- a name from start to before end for variable w, which has no values then; with no room for w, the table as it was
unfoldable pub name_set : (vars : List ℕ) → (w start end : ℕ) → List ℕ
name_set vars w start end = if ltb w 32 then three_set vars (2 * w) (2 * w + 1) (64 + w) start end 0 else vars

-- the place of value k of variable w
abbrev pub value_at : ℕ → ℕ → ℕ
value_at w k = 96 + 2 * (16 * w + k)

-- a value from a to before e more for variable w; with no room for it, the table as it was
unfoldable pub value_set : (vars : List ℕ) → (w a e : ℕ) → List ℕ
value_set vars w a e =
    if ltb w 32 && ltb (get_or vars (64 + w) 0) 16
    then three_set vars (value_at w (get_or vars (64 + w) 0)) (value_at w (get_or vars (64 + w) 0) + 1) (64 + w) a e (get_or vars (64 + w) 0 + 1)
    else vars

-- ---- what a step changes

-- a new variable w without values, the first w as they were
pub record Named (text old new : List ℕ) (w start end : ℕ) : Type 0 where
  pub front : variables text new (suc w) ≡ record { name = span text start end; values = [] } ∷ variables text old w
  pub behind : variables text new w ≡ variables text old w
  pub called : bytes_at text new (2 * w) ≡ span text start end
  pub none : values_of text new w ≡ []

-- variable w has these values more, all else is as it was
pub record Added (text old new : List ℕ) (w : ℕ) (values : List (List ℕ)) : Type 0 where
  pub names : (v : ℕ) → v < 32 → bytes_at text new (2 * v) ≡ bytes_at text old (2 * v)
  pub others : (v : ℕ) → v < 32 → (v ≡ w → ⊥) → values_of text new v ≡ values_of text old v
  pub more : values_of text new w ≡ values_of text old w ++ values
