-- The faults of a value and of a pattern, in their order.
use Rattle.std.specs.Prelude.{if◌then◌else◌}
use Prim.Native.Nat.{ℕ, ◌≤◌, ◌<◌}
use mathlib.Core.Path.{◌≡◌, refl, sym, ap, ◌∙◌}
use mathlib.Core.List.{List, [], ◌∷◌}
use mathlib.Core.Bool.{Bool, true, false}
use lib.ListN.{length}
use borrow.Author.Tests.{lt-ltb, le-ltb}
use native.Mathlib.Omega.{arith}
use Rattle.scan.specs.Bytes.{is_empty}
use Rattle.pattern.specs.Items.{value_form, value_names, pattern_form, pattern_names}
use Rattle.pattern.specs.Expansions.{Variable, is_set}
use Rattle.pattern.specs.Faults.{too_long, value_fault, pattern_fault}
use Rattle.pattern.specs.Table.{env}
use Rattle.sizes.specs.declared.Size.{Size}
use Rattle.sizes.specs.Sizes.{Known}
use Rattle.sizes.specs.Numbered.{pattern_by}
use Rattle.sizes.proofs.Laws.{too_many-size, rooted-size}
use Rattle.sizes.proofs.Numbered.{pattern-right}
use Rattle.faults.specs.Sized.{size_fault, fault_by}

-- ---- a value

pub empty-yes : (s : List ℕ) → length s ≡ 0 → is_empty s ≡ true
empty-yes [] e = refl
empty-yes (b ∷ s) e = absurd (omega arith)

pub empty-no : (s : List ℕ) → (length s ≡ 0 → ⊥) → is_empty s ≡ false
empty-no [] e = absurd (e refl)
empty-no (b ∷ s) e = refl

module _ (vs : List Variable) (s : List ℕ) where
  value-empty : length s ≡ 0 → value_fault vs s ≡ 4
  unfolding value_fault
  value-empty e = rw (empty-yes s e, value_fault)

  module _ (some : length s ≡ 0 → ⊥) where
    value-long : 1024 < length s → value_fault vs s ≡ 9
    unfolding value_fault
    value-long h = rw (empty-no s some, value_fault, lt-ltb 1024 (length s) h)

    value-rest : length s ≤ 1024 → value_fault vs s ≡ (if value_form s then if value_names (is_set vs) s then 0 else 6 else 7)
    unfolding value_fault
    value-rest h = rw (empty-no s some, value_fault, le-ltb 1024 (length s) h) (go (value_form s) (value_names (is_set vs) s))
      where
        go : (a b : Bool) →
            ◌≡◌ {A = ℕ} (elim a as (λ _. ℕ) [ false ↦ 7 | true ↦ elim b as (λ _. ℕ) [ false ↦ 6 | true ↦ 0 ] ]) (if a then if b then 0 else 6 else 7)
        go true true = refl
        go true false = refl
        go false b = refl

-- ---- a pattern

-- under a right table the fault is that of the expansions
fault-known : (text vars : List ℕ) (n : ℕ) (table : List ℕ) → Known text vars n table → (s : List ℕ) →
    fault_by text vars n table s ≡ pattern_fault (env text vars n) s
unfolding fault_by pattern_fault size_fault
fault-known text vars n table k s =
    rw (pattern-right k s).size
    (go (too_long s) (pattern_form s) (pattern_names (is_set (env text vars n)) s) (too_many-size (env text vars n) s) (rooted-size (env text vars n) s))
  where
    go : (l a b : Bool) {c d x y : Bool} → c ≡ x → d ≡ y →
        ◌≡◌ {A = ℕ} (if l then 9 else if a then (if b then if x then 9 else if y then 0 else 7 else 6) else 7)
        (elim l as (λ _. ℕ) [ true ↦ 9 | false ↦ elim a as (λ _. ℕ) [ false ↦ 7 | true ↦ elim b as (λ _. ℕ) [ false ↦ 6 | true ↦ elim c as (λ _. ℕ) [ true ↦ 9 | false ↦ elim d as (λ _. ℕ) [ false ↦ 7 | true ↦ 0 ] ] ] ] ])
    go true a b p q = refl
    go false false b p q = refl
    go false true false p q = refl
    go false true true {c} {d} p q = rw (← p, ← q) (last c d)
      where
        last : (c d : Bool) → ◌≡◌ {A = ℕ} (if c then 9 else if d then 0 else 7) (elim c as (λ _. ℕ) [ true ↦ 9 | false ↦ elim d as (λ _. ℕ) [ false ↦ 7 | true ↦ 0 ] ])
        last true d = refl
        last false true = refl
        last false false = refl

pub faults-known : {text vars : List ℕ} {n : ℕ} {table : List ℕ} → Known text vars n table → fault_by text vars n table ≡ pattern_fault (env text vars n)
faults-known {text} {vars} {n} {table} k = λ i s. fault-known text vars n table k s i

-- ---- as the code finds them, t being the bytes of s

module _ (vs : List Variable) (s t : List ℕ) (e : t ≡ s) where
  pub value_none : length t ≡ 0 → 4 ≡ value_fault vs s
  value_none h = sym (value-empty vs s (rw (← e) h))

  module _ (some : length t ≡ 0 → ⊥) where
    pub value-too-long : 1024 < length t → 9 ≡ value_fault vs s
    value-too-long h = sym (value-long vs s (rw (← e) some) (rw (← e) h))

    module _ (short : length t ≤ 1024) where
      rest : value_fault vs s ≡ (if value_form s then if value_names (is_set vs) s then 0 else 6 else 7)
      rest = value-rest vs s (rw (← e) some) (rw (← e) short)

      pub value-good : {f n : Bool} → f ≡ true → f ≡ value_form s → n ≡ true → n ≡ value_names (is_set vs) s → 0 ≡ value_fault vs s
      value-good y f z n = rw (rest, sym f ∙ y, sym n ∙ z)

      pub value-unset : {f n : Bool} → f ≡ true → f ≡ value_form s → n ≡ false → n ≡ value_names (is_set vs) s → 6 ≡ value_fault vs s
      value-unset y f z n = rw (rest, sym f ∙ y, sym n ∙ z)

      pub value-bad : {f : Bool} → f ≡ false → f ≡ value_form s → 7 ≡ value_fault vs s
      value-bad y f = rw (rest, sym f ∙ y)

module _ (text vars : List ℕ) (n : ℕ) (table s t : List ℕ) (e : t ≡ s) where
  pub pattern-too-long : 1024 < length t → 9 ≡ fault_by text vars n table s
  unfolding fault_by
  pattern-too-long h = rw (← e) (rw (lt-ltb 1024 (length t) h, fault_by))

  module _ (short : length t ≤ 1024) where
    all : fault_by text vars n table s ≡ (if pattern_form s then (if pattern_names (is_set (env text vars n)) s then size_fault (pattern_by text vars n table s).size else 6) else 7)
    unfolding fault_by
    all = let h : length s ≤ 1024 = rw (← e) short in rw (le-ltb 1024 (length s) h, fault_by)

    pub pattern-sized : {f b : Bool} {z : Size} {r : ℕ} → f ≡ true → f ≡ pattern_form s → b ≡ true → b ≡ pattern_names (is_set (env text vars n)) s →
        z ≡ (pattern_by text vars n table s).size → r ≡ size_fault z → r ≡ fault_by text vars n table s
    pattern-sized y f x b m h = rw (all, sym f ∙ y, sym b ∙ x) (h ∙ ap size_fault m)

    pub pattern-unset : {f b : Bool} → f ≡ true → f ≡ pattern_form s → b ≡ false → b ≡ pattern_names (is_set (env text vars n)) s → 6 ≡ fault_by text vars n table s
    pattern-unset y f x b = rw (all, sym f ∙ y, sym b ∙ x)

    pub pattern-bad : {f : Bool} → f ≡ false → f ≡ pattern_form s → 7 ≡ fault_by text vars n table s
    pattern-bad y f = rw (all, sym f ∙ y)
