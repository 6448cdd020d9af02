-- A front held to a path, and the turns of the loops over values and alternatives.
use Rattle.std.specs.Prelude.{Option, Some, None}
use mathlib.Core.Path.{◌≡◌, refl, sym, ap, ◌∙◌}
use mathlib.Core.List.{List, [], ◌∷◌}
use mathlib.Core.Bool.{Bool, true, false}
use Prim.Native.Nat.{ℕ, zero, suc, ◌+◌, ◌*◌, ◌-◌, ◌≤◌, ◌<◌, min}
use Prim.Native.Char.{code}
use native.Mathlib.Omega.{arith}
use lib.ListN.{length, drop, get_or, length-drop, drop_of_length-le}
use lib.Dec.{ltb}
use borrow.Author.Tests.{ltb-true, ltb-false}
use Rattle.scan.specs.Bytes.{some, same, span}
use Rattle.scan.proofs.Laws.{span_rest, drop-span}
use Rattle.pattern.specs.Items.{before, alternatives}
use Rattle.pattern.specs.Places.{item_at, item_end}
use Rattle.pattern.specs.Expansions.{Variable}
use Rattle.pattern.specs.Reads.{seen_item}
use Rattle.pattern.specs.declared.PieceRead.{PieceRead}
use Rattle.pattern.specs.declared.PartRead.{PartRead}
use Rattle.pattern.specs.declared.PartRead.TheVariants as part
use Rattle.pattern.specs.declared.ItemRead.{ItemRead}
use Rattle.pattern.specs.declared.ItemRead.TheVariants as item
use Rattle.pattern.specs.Table.{bytes_at, values_from, values_of, variables, number_of}
use Rattle.pattern.proofs.Laws.{alternatives-more, alternatives-last}
use Rattle.front.specs.Front.{lead_of}
use Rattle.front.specs.declared.Led.{Led}
use Rattle.front.proofs.Laws.{lead-none, lead-some, lead-len, lead-slash}
use Rattle.front.proofs.Far.{front-le}
use Rattle.choices.specs.Choices.{values_in, leads, or_follows, leads_on, some_leads, opens_item, opens}

-- ---- a front

-- what was told of a front
module _ (goes : Bool → List ℕ → List ℕ → Bool) (slash : Bool) (s path : List ℕ) {r : Option Led} (told : r ≡ lead_of slash s path) where
  pub led-none : r ≡ None → false ≡ leads goes s slash path
  unfolding leads
  led-none e = rw (lead-none slash s path (sym told ∙ e))

  pub led-some : {l : Led} → r ≡ Some l → goes l.slash (drop l.len s) (drop l.len path) ≡ leads goes s slash path
  unfolding leads
  led-some e = let t = sym told ∙ e in rw (lead-some slash s path t, lead-len slash s path t, lead-slash slash s path t)

-- of the front of a value
module _ (goes : Bool → List ℕ → Bool) (slash : Bool) (path value : List ℕ) {r : Option Led} (told : r ≡ lead_of slash (span value 0 (length value)) path) where
  of-value : r ≡ lead_of slash value path
  of-value = told ∙ rw (span_rest value 0)

  pub leads-unfit : r ≡ None → false ≡ leads_on goes slash path value
  leads-unfit e = led-none (or_follows goes) slash value path of-value e

  module _ {l : Led} (e : r ≡ Some l) where
    pub leads-short : l.len < length value → true ≡ leads_on goes slash path value
    leads-short h = go (drop l.len value) (omega (arith, length-drop l.len value)) ∙ led-some (or_follows goes) slash value path of-value e
      where
        go : (v : List ℕ) → 0 < length v → true ≡ or_follows goes l.slash v (drop l.len path)
        go [] k = absurd (omega arith)
        go (b ∷ v) k = refl

    pub leads-whole : length value ≤ l.len → {left : List ℕ} → left ≡ span path l.len (length path) → goes l.slash left ≡ leads_on goes slash path value
    leads-whole h q = rw (q, span_rest path l.len, ← led-some (or_follows goes) slash value path of-value e, drop_of_length-le value h)

-- of the front of a part of the text
module _ (slash : Bool) (text : List ℕ) (a e : ℕ) (path : List ℕ) {r : Option Led} (told : r ≡ lead_of slash (span text a e) path) {l : Led} (is : r ≡ Some l) where
  pub led-within : l.len ≤ length (span text a e)
  led-within = omega (arith, lead-len slash (span text a e) path (sym told ∙ is), front-le slash (span text a e))

  pub leads-next : (goes : Bool → List ℕ → List ℕ → Bool) {left : List ℕ} → left ≡ span path l.len (length path) →
      goes l.slash (span text (a + l.len) e) left ≡ leads goes (span text a e) slash path
  leads-next goes q = rw (q, span_rest path l.len, ← drop-span text a e l.len) (led-some goes slash (span text a e) path told is)

-- ---- one of several

module _ {A : Type 0} (p : A → Bool) (x : A) (xs : List A) where
  some-here : p x ≡ true → some p (x ∷ xs) ≡ true
  unfolding some
  some-here e = rw e

  some-there : p x ≡ false → some p (x ∷ xs) ≡ some p xs
  unfolding some
  some-there e = rw e

some-none : {A : Type 0} (p : A → Bool) → some p [] ≡ false
unfolding some
some-none p = refl

-- the values of a variable from value k on, of which y says whether the first is of the kind p
module _ (p : List ℕ → Bool) (text vars : List ℕ) where
  pub values-whole : (w m : ℕ) → m ≡ min 16 (get_or vars (64 + w) 0) → some p (values_from text vars (m - 0) (16 * w + 0)) ≡ some p (values_of text vars w)
  values-whole w m k =
      let e : m - 0 ≡ min 16 (get_or vars (64 + w) 0) = omega arith in
      let d : 16 * w + 0 ≡ 16 * w = omega arith in
      rw (e, d)

  module _ {whole : Bool} (m k i : ℕ) (all : some p (values_from text vars (m - k) (i + k)) ≡ whole) where
    values-next : k < m → values_from text vars (m - k) (i + k) ≡ bytes_at text vars (96 + 2 * (i + k)) ∷ values_from text vars (m - (k + 1)) (i + (k + 1))
    unfolding values_from
    values-next h =
        let e : m - k ≡ suc (m - (k + 1)) = omega arith in
        let d : i + k + 1 ≡ i + (k + 1) = omega arith in
        rw (e, values_from, d)

    module _ (h : k < m) {v : List ℕ} (e : v ≡ bytes_at text vars (96 + 2 * (i + k))) {y : Bool} (said : y ≡ p v) where
      pub value-here : y ≡ true → true ≡ whole
      value-here f = sym (ap (some p) (values-next h) ∙ some-here p (bytes_at text vars (96 + 2 * (i + k))) _ (rw (← e) (sym said ∙ f))) ∙ all

      pub value_there : y ≡ false → some p (values_from text vars (m - (k + 1)) (i + (k + 1))) ≡ whole
      value_there f = sym (ap (some p) (values-next h) ∙ some-there p (bytes_at text vars (96 + 2 * (i + k))) _ (rw (← e) (sym said ∙ f))) ∙ all

    pub value-nowhere : m ≤ k → false ≡ whole
    unfolding values_from
    value-nowhere h = let e : m - k ≡ 0 = omega arith in sym (some-none p) ∙ rw e at all

-- the alternatives from place i on, where j is the next comma or the end
module _ (p : List ℕ → Bool) {whole : Bool} (s : List ℕ) (i j : ℕ) (at : j ≡ i + before (code ",") 0 (drop i s))
    (all : some p (alternatives (drop i s)) ≡ whole) {v : List ℕ} (e : v ≡ span s i j) {y : Bool} (said : y ≡ p v) where
  pub alternative-here : y ≡ true → true ≡ whole
  alternative-here f = go (ltb j (length s)) refl
    where
      go : (x : Bool) → ltb j (length s) ≡ x → true ≡ whole
      go true k = sym (ap (some p) (alternatives-more s i j at (ltb-true j (length s) k)) ∙ some-here p (span s i j) _ (rw (← e) (sym said ∙ f))) ∙ all
      go false k = sym (ap (some p) (alternatives-last s i j at (ltb-false j (length s) k)) ∙ some-here p (span s i j) _ (rw (← e) (sym said ∙ f))) ∙ all

  pub alternative-there : y ≡ false → j < length s → some p (alternatives (drop (j + 1) s)) ≡ whole
  alternative-there f h = sym (ap (some p) (alternatives-more s i j at h) ∙ some-there p (span s i j) _ (rw (← e) (sym said ∙ f))) ∙ all

  pub alternative-nowhere : y ≡ false → length s ≤ j → false ≡ whole
  alternative-nowhere f h = sym (some-none p) ∙ sym (ap (some p) (alternatives-last s i j at h) ∙ some-there p (span s i j) [] (rw (← e) (sym said ∙ f))) ∙ all

-- ---- the values of a name go by its number

module _ (text vars : List ℕ) where
  abbrev values_at : ℕ → List (List ℕ)
  values_at zero = []
  values_at (suc w) = values_of text vars w

  name-values : (n : ℕ) (name : List ℕ) → values_in (variables text vars n) name ≡ values_at (number_of text vars n name)
  unfolding values_in variables number_of
  name-values zero name = refl
  name-values (suc w) name = go (same (bytes_at text vars (2 * w)) name) (name-values w name)
    where
      go : (x : Bool) → values_in (variables text vars w) name ≡ values_at (number_of text vars w name) →
          (elim x as (λ _. List (List ℕ)) [ true ↦ values_of text vars w | false ↦ values_in (variables text vars w) name ]) ≡
          values_at (elim x as (λ _. ℕ) [ true ↦ suc w | false ↦ number_of text vars w name ])
      go true h = refl
      go false h = h

  values-some : (r : ℕ) → (r ≡ 0 → ⊥) → values_at r ≡ values_of text vars (r - 1)
  values-some zero e = absurd (e refl)
  values-some (suc w) e = let k : suc w - 1 ≡ w = omega arith in rw k

  module _ (goes : Bool → List ℕ → Bool) (slash : Bool) (path : List ℕ) (n : ℕ) (name : List ℕ) {r : ℕ} (told : r ≡ number_of text vars n name) where
    pub name-unset : r ≡ 0 → false ≡ some_leads goes slash path (values_in (variables text vars n) name)
    unfolding some
    name-unset e = rw (name-values n name, ← told, e)

    pub name_set_lem : (r ≡ 0 → ⊥) → some_leads goes slash path (values_of text vars (r - 1)) ≡ some_leads goes slash path (values_in (variables text vars n) name)
    name_set_lem e = rw (name-values n name, ← told, values-some r e)

-- ---- the first item, as it was read

pub opens-zero : {depth : ℕ} → depth ≡ 0 → (vs : List Variable) (slash : Bool) (s path : List ℕ) → true ≡ opens depth vs slash s path
unfolding opens
opens-zero e vs slash s path = rw e

opens-more : (depth : ℕ) → (depth ≡ 0 → ⊥) → (vs : List Variable) (slash : Bool) (s path : List ℕ) →
    opens_item (leads (opens (depth - 1) vs) (drop (item_end s 0) s)) vs slash path (item_at s 0) ≡ opens depth vs slash s path
unfolding opens
opens-more zero more vs slash s path = absurd (more refl)
opens-more (suc k) more vs slash s path = let e : suc k - 1 ≡ k = omega arith in rw e

module _ (depth : ℕ) (more : depth ≡ 0 → ⊥) (vs : List Variable) (slash : Bool) (text w path : List ℕ) (i : ItemRead) (read : seen_item text i ≡ item_at w 0) where
  opened-by : {j : ItemRead} → i ≡ j → opens_item (leads (opens (depth - 1) vs) (drop (item_end w 0) w)) vs slash path (seen_item text j) ≡ opens depth vs slash w path
  opened-by e = rw (← e, read) (opens-more depth more vs slash w path)

  module _ {p : PartRead} (e : i ≡ item.Single p) where
    pub opens-piece : {q : PieceRead} → p ≡ part.Is q → true ≡ opens depth vs slash w path
    opens-piece f = opened-by (e ∙ ap item.Single f)

    pub opens-bad : p ≡ part.Bad → true ≡ opens depth vs slash w path
    opens-bad f = opened-by (e ∙ ap item.Single f)

    pub opens-use : {a b : ℕ} {rest : List ℕ} → p ≡ part.Use a b → rest ≡ drop (item_end w 0) w →
        some_leads (leads (opens (depth - 1) vs) rest) slash path (values_in vs (span text a b)) ≡ opens depth vs slash w path
    opens-use f g = rw g (opened-by (e ∙ ap item.Single f))

  pub opens-among : {a b : ℕ} {s rest : List ℕ} → i ≡ item.Among a b → s ≡ span text a b → rest ≡ drop (item_end w 0) w →
      some_leads (leads (opens (depth - 1) vs) rest) slash path (alternatives s) ≡ opens depth vs slash w path
  opens-among e f g = rw (f, g) (opened-by e)
