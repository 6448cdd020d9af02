-- A pattern that holds no @ uses no variable: the variables do not bear on it.
use Rattle.std.specs.Prelude.{if◌then◌else◌}
use Prim.Native.Nat.{ℕ, zero, suc}
use Prim.Native.Char.{code}
use mathlib.Core.Path.{◌≡◌, refl, sym, ap, ap₂, ◌∙◌}
use mathlib.Core.List.{List, [], ◌∷◌}
use mathlib.Core.Bool.{Bool, true, false, ◌&&◌, ◌||◌, false≢true}
use lib.ListN.{take}
use lib.Dec.{eqb, ltb}
use borrow.Author.Tests.{eqb-false, ne_eqb}
use Rattle.scan.specs.Bytes.{every, some, holds, begins}
use Rattle.scan.proofs.Bools.{and_left, and_right, neither_left, neither_right}
use Rattle.class.specs.Class.{good_class}
use Rattle.pattern.specs.Pieces.{Piece, Byte, Class, Part, Is, Use, Bad, Start, start, up_to, escaped, class_part, starting, part, extra, parts}
use Rattle.pattern.specs.Items.{Item, Single, Among, before, body, is_closed, after_comma, alternatives, item, reach, items, names_part, value_names, names_item, pattern_form, pattern_names}
use Rattle.pattern.specs.Expansions.{Variable, is_set, Choices, of_part, of_parts, one_of, of_name, of_item, of_items, expansions, counting, count, longest, begins_slash}
use Rattle.pattern.specs.Faults.{too_long, too_many, rooted, pattern_fault}

-- ---- without @

abbrev Without : List ℕ → Type 0
Without s = holds (code "@") s ≡ false

without-take : (k : ℕ) (s : List ℕ) → Without s → Without (take k s)
unfolding some
without-take zero s h = refl
without-take (suc k) [] h = refl
without-take (suc k) (b ∷ s) h =
    ap₂ ◌||◌ (neither_left (eqb (code "@") b) (holds (code "@") s) h) (without-take k s (neither_right (eqb (code "@") b) (holds (code "@") s) h))

module _ (b : ℕ) (s : List ℕ) (h : Without (b ∷ s)) where
  without-first : eqb b (code "@") ≡ false
  unfolding some
  without-first = ne_eqb b (code "@") (λ q. eqb-false (code "@") b (neither_left (eqb (code "@") b) (holds (code "@") s) h) (sym q))

  without-rest : Without s
  unfolding some
  without-rest = neither_right (eqb (code "@") b) (holds (code "@") s) h

-- ---- no part uses a name

abbrev no_name : List ℕ → Bool
no_name n = false

abbrev Nameless : Part → Type 0
Nameless p = names_part no_name p ≡ true

nameless-if : (x : Bool) (a b : Start) → Nameless a.is → Nameless b.is → Nameless (if x then a else b).is
nameless-if true a b e f = e
nameless-if false a b e f = f

escaped-nameless : (s : List ℕ) → Nameless (escaped s)
escaped-nameless [] = refl
escaped-nameless (c ∷ s) = refl

class-nameless : (s : List ℕ) (n : ℕ) → Nameless (class_part s n)
class-nameless s zero = refl
class-nameless s (suc n) = go (good_class (take n s))
  where
    go : (x : Bool) → Nameless (if x then Is (Class (take n s)) else Bad)
    go true = refl
    go false = refl

part-nameless : (b : ℕ) (s : List ℕ) → eqb b (code "@") ≡ false → Nameless (part b s)
unfolding part starting
part-nameless b s e =
    rw (e, part, starting)
    (nameless-if (eqb b (code "\\")) _ _ (escaped-nameless s)
    (nameless-if (eqb b (code "?")) _ _ refl
    (nameless-if (eqb b (code "*")) _ _ (nameless-if (begins (code "*") s) _ _ refl refl)
    (nameless-if (eqb b (code "[")) _ _ (class-nameless s (up_to (code "]") s))
    (nameless-if (eqb b (code "]") || eqb b (code "{") || eqb b (code "}") || eqb b (code "^")) (start Bad 0) (start (Is (Byte b)) 0) refl refl)))))

parts-nameless : (k : ℕ) (s : List ℕ) → Without s → every (names_part no_name) (parts k s) ≡ true
unfolding every parts
parts-nameless k [] h = refl
parts-nameless (suc k) (b ∷ s) h = parts-nameless k s (without-rest b s h)
parts-nameless zero (b ∷ s) h = ap₂ ◌&&◌ (part-nameless b s (without-first b s h)) (parts-nameless (extra b s) s (without-rest b s h))

value-nameless : (s : List ℕ) → Without s → value_names no_name s ≡ true
unfolding value_names
value-nameless s h = parts-nameless 0 s h

after-nameless : (k : ℕ) (s : List ℕ) → Without s → every (value_names no_name) (after_comma k s) ≡ true
unfolding every after_comma
after-nameless k [] h = refl
after-nameless (suc k) (b ∷ s) h = after-nameless k s (without-rest b s h)
after-nameless zero (b ∷ s) h =
    let r = without-rest b s h in
    ap₂ ◌&&◌ (value-nameless (take (before (code ",") 0 s) s) (without-take (before (code ",") 0 s) s r)) (after-nameless (before (code ",") 0 s) s r)

among-nameless : (s : List ℕ) → Without s → every (value_names no_name) (alternatives s) ≡ true
unfolding every
among-nameless s h =
    ap₂ ◌&&◌ (value-nameless (take (before (code ",") 0 s) s) (without-take (before (code ",") 0 s) s h)) (after-nameless (before (code ",") 0 s) s h)

item-nameless : (b : ℕ) (s : List ℕ) → eqb b (code "@") ≡ false → Without s → names_item no_name (item b s) ≡ true
unfolding item
item-nameless b s e h = go (eqb b (code "{") && is_closed s)
  where
    go : (x : Bool) → names_item no_name (if x then Among (alternatives (body s)) else Single (part b s)) ≡ true
    go true = among-nameless (body s) (without-take (before (code "}") 0 s) s h)
    go false = part-nameless b s e

items-nameless : (k : ℕ) (s : List ℕ) → Without s → every (names_item no_name) (items k s) ≡ true
unfolding every items
items-nameless k [] h = refl
items-nameless (suc k) (b ∷ s) h = items-nameless k s (without-rest b s h)
items-nameless zero (b ∷ s) h =
    let r = without-rest b s h in
    ap₂ ◌&&◌ (item-nameless b s (without-first b s h) r) (items-nameless (reach b s) s r)

-- ---- where no name is used, every name may be known, and it does not matter what a name stands for

module _ (known : List ℕ → Bool) where
  part-known : (p : Part) → Nameless p → names_part known p ≡ true
  part-known (Is p) h = refl
  part-known (Use n) h = absurd (false≢true h)
  part-known Bad h = refl

  parts-known : (ps : List Part) → every (names_part no_name) ps ≡ true → every (names_part known) ps ≡ true
  unfolding every
  parts-known [] h = refl
  parts-known (p ∷ ps) h =
      ap₂ ◌&&◌ (part-known p (and_left (names_part no_name p) (every (names_part no_name) ps) h)) (parts-known ps (and_right (names_part no_name p) (every (names_part no_name) ps) h))

  among-known : (ss : List (List ℕ)) → every (value_names no_name) ss ≡ true → every (value_names known) ss ≡ true
  unfolding every value_names
  among-known [] h = refl
  among-known (s ∷ ss) h =
      ap₂ ◌&&◌ (parts-known (parts 0 s) (and_left (value_names no_name s) (every (value_names no_name) ss) h)) (among-known ss (and_right (value_names no_name s) (every (value_names no_name) ss) h))

  item-known : (i : Item) → names_item no_name i ≡ true → names_item known i ≡ true
  item-known (Single p) h = part-known p h
  item-known (Among ss) h = among-known ss h

  items-known : (is : List Item) → every (names_item no_name) is ≡ true → every (names_item known) is ≡ true
  unfolding every
  items-known [] h = refl
  items-known (i ∷ is) h =
      ap₂ ◌&&◌ (item-known i (and_left (names_item no_name i) (every (names_item no_name) is) h)) (items-known is (and_right (names_item no_name i) (every (names_item no_name) is) h))

module _ {A : Type 0} (D : Choices A) (f g : List ℕ → A) where
  part_same : (p : Part) → Nameless p → of_part D f p ≡ of_part D g p
  part_same (Is p) h = refl
  part_same (Use n) h = absurd (false≢true h)
  part_same Bad h = refl

  parts_same : (ps : List Part) → every (names_part no_name) ps ≡ true → of_parts D f ps ≡ of_parts D g ps
  unfolding every of_parts
  parts_same [] h = refl
  parts_same (p ∷ ps) h =
      ap₂ D.beside (part_same p (and_left (names_part no_name p) (every (names_part no_name) ps) h)) (parts_same ps (and_right (names_part no_name p) (every (names_part no_name) ps) h))

  among_same : (ss : List (List ℕ)) → every (value_names no_name) ss ≡ true → one_of D f ss ≡ one_of D g ss
  unfolding every value_names one_of
  among_same [] h = refl
  among_same (s ∷ ss) h =
      ap₂ D.either (parts_same (parts 0 s) (and_left (value_names no_name s) (every (value_names no_name) ss) h)) (among_same ss (and_right (value_names no_name s) (every (value_names no_name) ss) h))

  item-same : (i : Item) → names_item no_name i ≡ true → of_item D f i ≡ of_item D g i
  item-same (Single p) h = part_same p h
  item-same (Among ss) h = among_same ss h

  items-same : (is : List Item) → every (names_item no_name) is ≡ true → of_items D f is ≡ of_items D g is
  unfolding every of_items
  items-same [] h = refl
  items-same (i ∷ is) h =
      ap₂ D.beside (item-same i (and_left (names_item no_name i) (every (names_item no_name) is) h)) (items-same is (and_right (names_item no_name i) (every (names_item no_name) is) h))

-- ---- the variables do not bear on a pattern without @

module _ (vs ws : List Variable) (s : List ℕ) (h : Without s) where
  same-choices : {A : Type 0} (D : Choices A) → of_items D (of_name D vs) (items 0 s) ≡ of_items D (of_name D ws) (items 0 s)
  same-choices D = items-same D (of_name D vs) (of_name D ws) (items 0 s) (items-nameless 0 s h)

  pub same-expansions : expansions vs s ≡ expansions ws s
  unfolding expansions
  same-expansions = same-choices _

  same_names : pattern_names (is_set vs) s ≡ pattern_names (is_set ws) s
  unfolding pattern_names
  same_names =
      let none = items-nameless 0 s h in
      items-known (is_set vs) (items 0 s) none ∙ sym (items-known (is_set ws) (items 0 s) none)

  same-many : too_many vs s ≡ too_many ws s
  unfolding too_many count
  same-many =
      ap₂ (λ (n : ℕ) (xs : List (List Piece)). elim (ltb 256 n) as (λ _. Bool) [ true ↦ true | false ↦ ltb 1024 (longest xs) ]) (same-choices counting) same-expansions

  same-rooted : rooted vs s ≡ rooted ws s
  unfolding rooted
  same-rooted = ap (every begins_slash) same-expansions

  abbrev fault_from : Bool → Bool → Bool → ℕ
  fault_from c d r =
      elim (too_long s) as (λ _. ℕ) [ true ↦ 9 | false ↦ elim (pattern_form s) as (λ _. ℕ) [ false ↦ 7 | true ↦ elim c as (λ _. ℕ) [ false ↦ 6 | true ↦ elim d as (λ _. ℕ) [ true ↦ 9 | false ↦ elim r as (λ _. ℕ) [ false ↦ 7 | true ↦ 0 ] ] ] ] ]

  pub same-fault : pattern_fault vs s ≡ pattern_fault ws s
  unfolding pattern_fault
  same-fault =
      ap₂ (λ (c d : Bool). fault_from c d (rooted vs s)) same_names same-many ∙ ap (fault_from (pattern_names (is_set ws) s) (too_many ws s)) same-rooted
