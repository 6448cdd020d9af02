-- What a loop over parts, items, values or alternatives knows: the size of those passed, and what is left.
use Prim.Native.Nat.{ℕ, suc, ◌+◌, ◌*◌, ◌-◌, ◌≤◌, ◌<◌, min, max}
use Prim.Native.Char.{code}
use mathlib.Core.Path.{◌≡◌, refl, sym, ap, ap₂, ◌∙◌}
use mathlib.Core.List.{List, [], ◌∷◌, ◌++◌, map}
use mathlib.Core.Bool.{false}
use lib.ListN.{length, get_or, take, drop, length-map, length-take, length-drop}
use lib.Seq.{drop-drop, drop-cons}
use lib.Dec.{eqb}
use native.Mathlib.Omega.{arith}
use Rattle.scan.specs.Bytes.{run, span}
use Rattle.scan.proofs.Laws.{length-span}
use Rattle.pattern.specs.Pieces.{Piece, Byte, Part, parts}
use Rattle.pattern.specs.Items.{Item, items, before, alternatives}
use Rattle.pattern.specs.Places.{part_at, part_end, item_at, item_end}
use Rattle.pattern.specs.Expansions.{across, of_part, of_parts, one_of, of_item, of_items}
use Rattle.pattern.specs.Table.{bytes_at, values_from, values_of, number_of}
use Rattle.pattern.specs.Literals.{ordinary}
use Rattle.pattern.proofs.Literals.{literal_part, literal_item, parts-run, items-run}
use Rattle.sizes.specs.declared.Size.{Size}
use Rattle.sizes.specs.Sizes.{size_of, size_at, times_of, plus_of, no_size, nil_size}
use Rattle.sizes.specs.Numbered.{Numbered, numbering, name_by, piece_size}
use Rattle.sizes.proofs.Across.{across-one}
use Rattle.sizes.proofs.Laws.{size-across, size-eq, size-nil, size-one, size-piece}
use Rattle.sizes.proofs.Algebra.{times-assoc, times_cut, nil-times, plus_assoc, plus-cut, none-plus}
use Rattle.sizes.proofs.Steps.{parts_next, parts_last, items-next, items-last, values-next, values-last, values-whole, alternative-next, alternative-end, name-number, number_size}

-- ---- neighbours: the size of the whole is that of those passed and of the rest; what is passed is cut to its bounds

pub record Passed (size rest whole : Size) : Type 0 where
  pub together : times_of size rest ≡ whole
  pub cut : times_of size nil_size ≡ size

sized-cut : (xs : List (List Piece)) → times_of (size_of xs) nil_size ≡ size_of xs
sized-cut xs = ap (times_of (size_of xs)) (sym size-nil) ∙ size-across xs ([] ∷ []) ∙ ap size_of (across-one xs)

pub passed_first : {size rest whole : Size} (xs : List (List Piece)) → size ≡ size_of xs → whole ≡ times_of (size_of xs) rest → Passed size rest whole
passed_first xs e w = record { together = rw e (sym w); cut = rw e (sized-cut xs) }

-- two neighbours more
pub passed-two : {size x y one two both next rest mid left whole : Size} → Passed size rest whole →
    one ≡ x → two ≡ y → both ≡ times_of one two → next ≡ times_of size both → rest ≡ times_of x mid → mid ≡ times_of y left → Passed next left whole
passed-two {size = size} {x = x} {y = y} {left = left} p o t b n r m =
    let e = n ∙ ap (times_of size) (b ∙ ap₂ times_of o t) in
    record {
      together =
          ap (λ (z : Size). times_of z left) e ∙ times-assoc size (times_of x y) left
          ∙ ap (times_of size) (times-assoc x y left ∙ ap (times_of x) (sym m) ∙ sym r)
          ∙ p.together;
      cut = ap (λ (z : Size). times_of z nil_size) e ∙ times_cut size (times_of x y) ∙ sym e;
    }

pub passed-all : {size rest whole : Size} → Passed size rest whole → rest ≡ nil_size → size ≡ whole
passed-all {size = size} p e = sym p.cut ∙ ap (times_of size) (sym e) ∙ p.together

-- ---- choices of several kinds: the size of the whole is that of those passed and of the rest

pub record Summed (size rest whole : Size) : Type 0 where
  pub together : plus_of size rest ≡ whole
  pub cut : plus_of size no_size ≡ size

summed-none : {size whole : Size} → size ≡ no_size → plus_of no_size whole ≡ whole → Summed size whole whole
unfolding plus_of
summed-none e w = record { together = rw e w; cut = rw e refl }

summed-more : {size x one next rest left whole : Size} → Summed size rest whole → one ≡ x → next ≡ plus_of size one → rest ≡ plus_of x left → Summed next left whole
summed-more {size = size} {x = x} {left = left} p o n r =
    let e = n ∙ ap (plus_of size) o in
    record {
      together = ap (λ (z : Size). plus_of z left) e ∙ plus_assoc size x left ∙ ap (plus_of size) (sym r) ∙ p.together;
      cut = ap (λ (z : Size). plus_of z no_size) e ∙ plus-cut size x ∙ sym e;
    }

summed-all : {size rest whole : Size} → Summed size rest whole → rest ≡ no_size → size ≡ whole
summed-all {size = size} p e = sym p.cut ∙ ap (plus_of size) (sym e) ∙ p.together

-- ---- literals: one expansion

one_more : (b : ℕ) (x : List Piece) (z : Size) → times_of (piece_size (Byte b)) (times_of (size_of (x ∷ [])) z) ≡ times_of (size_of ((Byte b ∷ x) ∷ [])) z
unfolding across
one_more b x z =
    sym (times-assoc (piece_size (Byte b)) (size_of (x ∷ [])) z)
    ∙ ap (λ (y : Size). times_of y z) (ap (λ (y : Size). times_of y (size_of (x ∷ []))) (sym (size-piece (Byte b))) ∙ size-across ((Byte b ∷ []) ∷ []) (x ∷ []))

module _ (f : List ℕ → Numbered) where
  parts_cut : (r : List Part) → times_of nil_size (of_parts numbering f r).size ≡ (of_parts numbering f r).size
  unfolding of_parts times_of
  parts_cut [] = refl
  parts_cut (t ∷ r) = nil-times (of_part numbering f t).size (of_parts numbering f r).size

  literal-parts : (l : List ℕ) (r : List Part) → (of_parts numbering f (map literal_part l ++ r)).size ≡ times_of (size_of (map Byte l ∷ [])) (of_parts numbering f r).size
  unfolding of_parts
  literal-parts [] r = sym (rw size-nil (parts_cut r))
  literal-parts (b ∷ l) r = ap (times_of (piece_size (Byte b))) (literal-parts l r) ∙ one_more b (map Byte l) (of_parts numbering f r).size

  items-cut : (r : List Item) → times_of nil_size (of_items numbering f r).size ≡ (of_items numbering f r).size
  unfolding of_items times_of
  items-cut [] = refl
  items-cut (i ∷ r) = nil-times (of_item numbering f i).size (of_items numbering f r).size

  literal-items : (l : List ℕ) (r : List Item) → (of_items numbering f (map literal_item l ++ r)).size ≡ times_of (size_of (map Byte l ∷ [])) (of_items numbering f r).size
  unfolding of_items
  literal-items [] r = sym (rw size-nil (items-cut r))
  literal-items (b ∷ l) r = ap (times_of (piece_size (Byte b))) (literal-items l r) ∙ one_more b (map Byte l) (of_items numbering f r).size

  -- those from a place on
  module _ (s : List ℕ) (i next : ℕ) (n : next ≡ i + run ordinary (drop i s)) where
    taken : take (run ordinary (drop i s)) (drop i s) ≡ span s i next
    taken = ap (λ (k : ℕ). take k (drop i s)) (let e : run ordinary (drop i s) ≡ next - i = omega arith in e)

    left : drop (run ordinary (drop i s)) (drop i s) ≡ drop next s
    left = drop-drop (run ordinary (drop i s)) i s ∙ ap (λ (k : ℕ). drop k s) (sym n)

    pub parts-literals : (of_parts numbering f (parts 0 (drop i s))).size ≡ times_of (size_of (map Byte (span s i next) ∷ [])) (of_parts numbering f (parts 0 (drop next s))).size
    parts-literals =
        ap (λ (l : List Part). (of_parts numbering f l).size) (parts-run (drop i s)) ∙ literal-parts (take (run ordinary (drop i s)) (drop i s)) _
        ∙ ap₂ (λ (x l : List ℕ). times_of (size_of (map Byte x ∷ [])) (of_parts numbering f (parts 0 l)).size) taken left

    pub items-literals : (of_items numbering f (items 0 (drop i s))).size ≡ times_of (size_of (map Byte (span s i next) ∷ [])) (of_items numbering f (items 0 (drop next s))).size
    items-literals =
        ap (λ (l : List Item). (of_items numbering f l).size) (items-run (drop i s)) ∙ literal-items (take (run ordinary (drop i s)) (drop i s)) _
        ∙ ap₂ (λ (x l : List ℕ). times_of (size_of (map Byte x ∷ [])) (of_items numbering f (items 0 l)).size) taken left

pub literals-none : (s : List ℕ) (at end : ℕ) → end ≤ at → size_of (map Byte (span s at end) ∷ []) ≡ nil_size
literals-none s at end h = let e : end - at ≡ 0 = omega arith in rw e size-nil

pub literals-some : (s : List ℕ) (at end : ℕ) → at < end → end ≤ length s →
    size_of (map Byte (span s at end) ∷ []) ≡ record { count = 1; longest = min 1025 (end - at); empty = false; slashed = eqb (get_or s at 0) 47 }
literals-some s at end h k =
    let e : end - at ≡ suc (end - at - 1) = omega arith in
    let m : length (take (end - at - 1) (drop (suc at) s)) ≡ end - at - 1 = omega (arith, length-take (end - at - 1) (drop (suc at) s), length-drop (suc at) s) in
    ap (λ (l : List ℕ). size_of (map Byte l ∷ [])) (ap₂ take e (drop-cons s at 0 (omega arith)))
    ∙ size-one (Byte (get_or s at 0)) (map Byte (take (end - at - 1) (drop (suc at) s)))
    ∙ size-eq refl (rw length-map (omega arith)) refl refl

-- ---- a name has the size that the table has under its number

sizes-eq : {a b : Numbered} → a ≡ b → a.size ≡ b.size
sizes-eq e = ap (λ (x : Numbered). x.size) e

pub name-size : {z : Size} {r : ℕ} (text vars table : List ℕ) (n : ℕ) (name : List ℕ) → z ≡ size_at table r → r ≡ number_of text vars n name →
    z ≡ (name_by text vars table n name).size
name-size text vars table n name e d = e ∙ ap (size_at table) d ∙ sym (sizes-eq (name-number text vars table n name) ∙ number_size text vars table (number_of text vars n name))

-- ---- the parts or items from a place on, the first of which has a size

module _ (f : List ℕ → Numbered) (s : List ℕ) where
  abbrev pub parts_from : ℕ → Size
  parts_from at = (of_parts numbering f (parts 0 (drop at s))).size

  abbrev pub items_from : ℕ → Size
  items_from at = (of_items numbering f (items 0 (drop at s))).size

  module _ (at : ℕ) where
    pub parts_end : length s ≤ at → parts_from at ≡ nil_size
    parts_end h = sizes-eq (parts_last numbering f s at h)

    pub items_end : length s ≤ at → items_from at ≡ nil_size
    items_end h = sizes-eq (items-last numbering f s at h)

    module _ (next : ℕ) (z : Size) (h : at < length s) where
      pub parts_step : next ≡ part_end s at → z ≡ (of_part numbering f (part_at s at)).size → parts_from at ≡ times_of z (parts_from next)
      parts_step n e = sizes-eq (parts_next numbering f s at (part_at s at) next h refl n) ∙ ap (λ (y : Size). times_of y (parts_from next)) (sym e)

      pub items_step : next ≡ item_end s at → z ≡ (of_item numbering f (item_at s at)).size → items_from at ≡ times_of z (items_from next)
      items_step n e = sizes-eq (items-next numbering f s at (item_at s at) next h refl n) ∙ ap (λ (y : Size). times_of y (items_from next)) (sym e)

-- ---- a loop over the values of a variable or the alternatives of a span

module _ (f : List ℕ → Numbered) where
  abbrev pub one_from : List (List ℕ) → Size
  one_from ss = (one_of numbering f ss).size

  one-cut : (ss : List (List ℕ)) → plus_of no_size (one_from ss) ≡ one_from ss
  unfolding one_of plus_of
  one-cut [] = refl
  one-cut (s ∷ ss) = none-plus (of_parts numbering f (parts 0 s)).size (one_from ss)

  pub one-first : {size : Size} → size ≡ no_size → (ss : List (List ℕ)) → Summed size (one_from ss) (one_from ss)
  one-first e ss = summed-none e (one-cut ss)

  module _ (text vars : List ℕ) where
    pub values-first : {size : Size} (w m : ℕ) → m ≡ min 16 (get_or vars (64 + w) 0) → size ≡ no_size →
        Summed size (one_from (values_from text vars (m - 0) (16 * w + 0))) (one_from (values_of text vars w))
    values-first w m k e = rw (sizes-eq (values-whole numbering f text vars w m k)) (one-first e (values_of text vars w))

    module _ {size whole : Size} (m k i : ℕ) (p : Summed size (one_from (values_from text vars (m - k) (i + k))) whole) where
      pub values-more : {one next : Size} → k < m → one ≡ (of_parts numbering f (parts 0 (bytes_at text vars (96 + 2 * (i + k))))).size →
          next ≡ plus_of size one → Summed next (one_from (values_from text vars (m - (k + 1)) (i + (k + 1)))) whole
      values-more h o n = summed-more p o n (sizes-eq (values-next numbering f text vars m k i h))

      pub values-all : m ≤ k → size ≡ whole
      values-all h = summed-all p (sizes-eq (values-last numbering f text vars m k i h))

  -- the alternative from i to before the comma or end at j
  module _ {size one next whole : Size} (text : List ℕ) (a e : ℕ) (s : List ℕ) (w : s ≡ span text a e) (i j : ℕ)
      (at : j ≡ i + before (code ",") 0 (drop i s)) (b : j ≤ length s)
      (p : Summed size (one_from (alternatives (drop i s))) whole)
      (o : one ≡ (of_parts numbering f (parts 0 (span text (a + i) (a + j)))).size) (n : next ≡ plus_of size one) where
    pub alternative-more : j < length s → Summed next (one_from (alternatives (drop (j + 1) s))) whole
    alternative-more h = summed-more p o n (sizes-eq (alternative-next numbering f text a e s w i j at b h))

    pub alternative-all : length s ≤ j → next ≡ whole
    alternative-all h = summed-all (summed-more p o n (sizes-eq (alternative-end numbering f text a e s w i j at b h))) refl

pub span-most : (text : List ℕ) (a e i : ℕ) → i ≤ length (span text a e) → a + i ≤ max a (length text)
span-most text a e i h = omega (arith, length-span text a e)
