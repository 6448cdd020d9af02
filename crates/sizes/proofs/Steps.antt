-- The choices from a place on are those of what stands there, put together with those after it; in whatever choices are put together.
use Prim.Native.Nat.{ℕ, zero, suc, ◌+◌, ◌*◌, ◌-◌, ◌≤◌, ◌<◌, min}
use Prim.Native.Char.{code}
use mathlib.Core.Path.{◌≡◌, refl, ap, ◌∙◌}
use mathlib.Core.List.{List, []}
use mathlib.Core.Bool.{Bool, true, false}
use lib.ListN.{length, get_or, take, drop}
use native.Mathlib.Omega.{arith}
use Rattle.scan.specs.Bytes.{same, span}
use Rattle.scan.proofs.Laws.{span-span}
use Rattle.pattern.specs.Pieces.{Part, parts}
use Rattle.pattern.specs.Items.{Item, items, before, after_comma, alternatives}
use Rattle.pattern.specs.Places.{part_at, part_end, item_at, item_end}
use Rattle.pattern.specs.Expansions.{Choices, of_part, of_parts, one_of, of_item, of_items}
use Rattle.pattern.specs.Table.{bytes_at, values_from, values_of, number_of}
use Rattle.pattern.proofs.Laws.{parts_at, parts-end, items_at, items-end, alternatives-more, alternatives-last}
use Rattle.sizes.specs.Sizes.{size_at}
use Rattle.sizes.specs.Numbered.{Numbered, numbering, name_by}

module _ {A : Type 0} (D : Choices A) (f : List ℕ → A) where
  -- ---- parts and items

  module _ (s : List ℕ) (i : ℕ) where
    pub parts_next : (p : Part) (next : ℕ) → i < length s → p ≡ part_at s i → next ≡ part_end s i →
        of_parts D f (parts 0 (drop i s)) ≡ D.beside (of_part D f p) (of_parts D f (parts 0 (drop next s)))
    unfolding of_parts
    parts_next p next h q e = rw (q, parts_at s i next h e, of_parts)

    pub parts_last : length s ≤ i → of_parts D f (parts 0 (drop i s)) ≡ D.empty
    unfolding of_parts
    parts_last h = rw (parts-end s i h)

    pub items-next : (p : Item) (next : ℕ) → i < length s → p ≡ item_at s i → next ≡ item_end s i →
        of_items D f (items 0 (drop i s)) ≡ D.beside (of_item D f p) (of_items D f (items 0 (drop next s)))
    unfolding of_items
    items-next p next h q e = rw (q, items_at s i next h e, of_items)

    pub items-last : length s ≤ i → of_items D f (items 0 (drop i s)) ≡ D.empty
    unfolding of_items
    items-last h = rw (items-end s i h)

  -- ---- the values of a variable

  module _ (text vars : List ℕ) (m k i : ℕ) where
    pub values-next : k < m → one_of D f (values_from text vars (m - k) (i + k)) ≡
        D.either (of_parts D f (parts 0 (bytes_at text vars (96 + 2 * (i + k))))) (one_of D f (values_from text vars (m - (k + 1)) (i + (k + 1))))
    unfolding one_of values_from
    values-next h =
        let e : m - k ≡ suc (m - (k + 1)) = omega arith in
        let d : i + k + 1 ≡ i + (k + 1) = omega arith in
        rw (e, values_from, one_of, d)

    pub values-last : m ≤ k → one_of D f (values_from text vars (m - k) (i + k)) ≡ D.none
    unfolding one_of values_from
    values-last h = let e : m - k ≡ 0 = omega arith in rw e

  pub values-whole : (text vars : List ℕ) (w m : ℕ) → m ≡ min 16 (get_or vars (64 + w) 0) →
      one_of D f (values_from text vars (m - 0) (16 * w + 0)) ≡ one_of D f (values_of text vars w)
  values-whole text vars w m k =
      let e : m - 0 ≡ min 16 (get_or vars (64 + w) 0) = omega arith in
      let d : 16 * w + 0 ≡ 16 * w = omega arith in
      rw (e, d)

  -- ---- the alternatives of a span

  -- the alternative from i to before the comma or end at j, and those after it
  module _ (text : List ℕ) (a e : ℕ) (s : List ℕ) (w : s ≡ span text a e) (i j : ℕ)
      (at : j ≡ i + before (code ",") 0 (drop i s)) (b : j ≤ length s) where
    same_span : span s i j ≡ span text (a + i) (a + j)
    same_span = rw w (span-span text a e i j (rw w at b))

    pub alternative-first : one_of D f (alternatives (drop i s)) ≡
        D.either (of_parts D f (parts 0 (span text (a + i) (a + j)))) (one_of D f (after_comma (before (code ",") 0 (drop i s)) (drop i s)))
    unfolding one_of
    alternative-first =
        let x : before (code ",") 0 (drop i s) ≡ j - i = omega arith in
        ap (λ (l : List ℕ). D.either (of_parts D f (parts 0 l)) (one_of D f (after_comma (before (code ",") 0 (drop i s)) (drop i s)))) (ap (λ (k : ℕ). take k (drop i s)) x ∙ same_span)

    pub alternative-next : j < length s →
        one_of D f (alternatives (drop i s)) ≡
        D.either (of_parts D f (parts 0 (span text (a + i) (a + j)))) (one_of D f (alternatives (drop (j + 1) s)))
    unfolding one_of
    alternative-next h =
        ap (one_of D f) (alternatives-more s i j at h)
        ∙ ap (λ (l : List ℕ). D.either (of_parts D f (parts 0 l)) (one_of D f (alternatives (drop (j + 1) s)))) same_span

    pub alternative-end : length s ≤ j →
        one_of D f (alternatives (drop i s)) ≡ D.either (of_parts D f (parts 0 (span text (a + i) (a + j)))) D.none
    unfolding one_of
    alternative-end h =
        ap (one_of D f) (alternatives-last s i j at h) ∙ ap (λ (l : List ℕ). D.either (of_parts D f (parts 0 l)) D.none) same_span

-- ---- a name goes by its number

module _ (text vars table : List ℕ) where
  abbrev pub by_number : ℕ → Numbered
  by_number zero = record { size = size_at table 0; nth = λ d. [] }
  by_number (suc w) = record { size = size_at table (suc w); nth = (one_of numbering (name_by text vars table w) (values_of text vars w)).nth }

  pub name-number : (n : ℕ) (name : List ℕ) → name_by text vars table n name ≡ by_number (number_of text vars n name)
  unfolding name_by number_of
  name-number zero name = refl
  name-number (suc w) name = go (same (bytes_at text vars (2 * w)) name) (name-number w name)
    where
      go : (x : Bool) → name_by text vars table w name ≡ by_number (number_of text vars w name) →
          (elim x as (λ _. Numbered) [ true ↦ by_number (suc w) | false ↦ name_by text vars table w name ]) ≡
          by_number (elim x as (λ _. ℕ) [ true ↦ suc w | false ↦ number_of text vars w name ])
      go true h = refl
      go false h = h

  pub number_size : (r : ℕ) → (by_number r).size ≡ size_at table r
  number_size zero = refl
  number_size (suc w) = refl
