-- What a head tells hangs on its 1256 numbers alone.
use Rattle.std.specs.Prelude.{if◌then◌else◌}
use Prim.Native.Nat.{ℕ, zero, suc, ◌+◌, ◌*◌, ◌-◌, ◌≤◌, ◌<◌, min}
use mathlib.Core.Path.{◌≡◌, refl, ap, ap₂, ◌∙◌}
use mathlib.Core.List.{List, [], ◌∷◌, ◌++◌}
use mathlib.Core.Bool.{Bool, true, false}
use native.Mathlib.Omega.{arith}
use borrow.Author.Tests.{ltb-true}
use lib.ListN.{get_or, drop}
use lib.Seq.{get_or-drop}
use lib.Dec.{ltb}
use Rattle.scan.specs.Bytes.{span}
use Rattle.pattern.specs.Expansions.{Variable}
use Rattle.pattern.specs.Table.{bytes_at, env, values_from, variables}
use Rattle.rule.specs.Rules.{Rule}
use Rattle.statement.specs.Steps.{rules_from}
use Rattle.profile.specs.Profiles.{Profile}
use Rattle.profile.specs.Places.{profiles_again, profiles_by}
use Rattle.entries.specs.Entries.{entries_from, names_from}
use Rattle.entries.specs.Ahead.{left_of, rest_from}
use Rattle.entries.specs.declared.Cursor.{Cursor}

-- two memories with the same head
abbrev pub Agree : (m m' : List ℕ) → Type 0
Agree m m' = (k : ℕ) → k < 1256 → get_or m k 0 ≡ get_or m' k 0

module _ (text m m' : List ℕ) (agree : Agree m m') where
  -- ---- the table of variables

  bytes-agree : (i : ℕ) → i + 1 < 1256 → bytes_at text m i ≡ bytes_at text m' i
  bytes-agree i h = ap₂ (span text) (agree i (omega arith)) (agree (i + 1) h)

  values_agree : (k i : ℕ) → i + k ≤ 512 → values_from text m k i ≡ values_from text m' k i
  unfolding values_from
  values_agree zero i h = refl
  values_agree (suc k) i h =
      ap₂ (λ (b : List ℕ) (l : List (List ℕ)). b ∷ l) (bytes-agree (96 + 2 * i) (omega arith)) (values_agree k (i + 1) (omega arith))

  variables-agree : (w : ℕ) → w ≤ 32 → variables text m w ≡ variables text m' w
  unfolding variables
  variables-agree zero h = refl
  variables-agree (suc w) h =
      ap₂ (λ (v : Variable) (l : List Variable). v ∷ l)
      (ap₂ (λ (n : List ℕ) (l : List (List ℕ)). record { name = n; values = l }) (bytes-agree (2 * w) (omega arith))
      (ap (λ (k : ℕ). values_from text m (min 16 k) (16 * w)) (agree (64 + w) (omega arith)) ∙ values_agree (min 16 (get_or m' (64 + w) 0)) (16 * w) (omega arith)))
      (variables-agree w (omega arith))

  pub env-agree : env text m (get_or m 1248 0) ≡ env text m' (get_or m' 1248 0)
  env-agree = ap (env text m) (agree 1248 (omega arith)) ∙ variables-agree (min 32 (get_or m' 1248 0)) (omega arith)

  -- ---- the table of profiles

  row-agree : (i : ℕ) → i < 136 → get_or (drop 1120 m) i 0 ≡ get_or (drop 1120 m') i 0
  row-agree i h = rw (get_or-drop 1120 m i 0, get_or-drop 1120 m' i 0) (agree (1120 + i) (omega arith))

  name_agree : (i : ℕ) → i < 32 → bytes_at text (drop 1120 m) (4 * i) ≡ bytes_at text (drop 1120 m') (4 * i)
  name_agree i h = ap₂ (span text) (row-agree (4 * i) (omega arith)) (row-agree (4 * i + 1) (omega arith))

  names-within : (k i : ℕ) → i + k ≤ 32 → names_from text (drop 1120 m) k i ≡ names_from text (drop 1120 m') k i
  unfolding names_from
  names-within zero i h = refl
  names-within (suc k) i h = ap₂ (λ (b : List ℕ) (l : List (List ℕ)). b ∷ l) (name_agree i (omega arith)) (names-within k (i + 1) (omega arith))

  pub names-agree : names_from text (drop 1120 m) (min 32 (get_or m 1249 0)) 0 ≡ names_from text (drop 1120 m') (min 32 (get_or m' 1249 0)) 0
  names-agree =
      ap (λ (k : ℕ). names_from text (drop 1120 m) (min 32 k) 0) (agree 1249 (omega arith)) ∙ names-within (min 32 (get_or m' 1249 0)) 0 (omega arith)

  profiles-within : (k i : ℕ) → i + k ≤ 32 → profiles_again text (drop 1120 m) k i ≡ profiles_again text (drop 1120 m') k i
  unfolding profiles_by
  profiles-within zero i h = refl
  profiles-within (suc k) i h =
      ap₂ (λ (p : Profile) (l : List Profile). p ∷ l)
      (ap₂ (λ (n : List ℕ) (l : List Rule). record { name = n; rules = l }) (name_agree i (omega arith))
      (ap₂ (λ (j at : ℕ). rules_from j (λ _. 0) text at) (row-agree (4 * i + 3) (omega arith)) (row-agree (4 * i + 2) (omega arith))))
      (profiles-within k (i + 1) (omega arith))

  -- ---- what is still to come

  pub rest-agree : (c : Cursor) → rest_from text m c ≡ rest_from text m' c
  unfolding rest_from
  rest-agree c =
      let n : ℕ = min 32 (get_or m' 1249 0) in
      let i : ℕ = c.profile + 1 in
      ap (λ (k : ℕ). (if ltb c.profile (min 32 k) then left_of text c ++ entries_from i (profiles_again text (drop 1120 m) (min 32 k - i) i) else [])) (agree 1249 (omega arith))
      ∙ go (ltb c.profile n) refl
    where
      go : (b : Bool) → ltb c.profile (min 32 (get_or m' 1249 0)) ≡ b →
          (if b then left_of text c ++ entries_from (c.profile + 1) (profiles_again text (drop 1120 m) (min 32 (get_or m' 1249 0) - (c.profile + 1)) (c.profile + 1)) else [])
          ≡ (if b then left_of text c ++ entries_from (c.profile + 1) (profiles_again text (drop 1120 m') (min 32 (get_or m' 1249 0) - (c.profile + 1)) (c.profile + 1)) else [])
      go false e = refl
      go true e =
          ap (λ (l : List Profile). left_of text c ++ entries_from (c.profile + 1) l)
          (profiles-within (min 32 (get_or m' 1249 0) - (c.profile + 1)) (c.profile + 1) (omega (arith, ltb-true c.profile (min 32 (get_or m' 1249 0)) e)))
