-- What holds of every part, item or alternative, from a place on.
use Prim.Native.Nat.{ℕ, suc, ◌+◌, ◌≤◌, ◌<◌}
use Prim.Native.Char.{code}
use mathlib.Core.Path.{◌≡◌, refl, sym, ap, ◌∙◌}
use mathlib.Core.List.{List, [], ◌∷◌, ◌++◌, map}
use mathlib.Core.Bool.{Bool, true, false, ◌&&◌}
use lib.ListN.{length, take, drop}
use lib.Seq.{drop-drop}
use lib.Dec.{leb, ltb}
use borrow.Author.Tests.{ltb-true, ltb-false, le-leb, lt-leb}
use native.Mathlib.Omega.{arith}
use Rattle.scan.specs.Bytes.{every, run, span}
use Rattle.scan.proofs.Laws.{span-span}
use Rattle.pattern.specs.Pieces.{Part, parts}
use Rattle.pattern.specs.Items.{Item, items, before, alternatives}
use Rattle.pattern.specs.Places.{part_at, part_end, item_at, item_end}
use Rattle.pattern.specs.Literals.{ordinary}
use Rattle.pattern.proofs.Literals.{literal_part, literal_item, parts-run, items-run}
use Rattle.pattern.proofs.Laws.{parts_at, parts-end, items_at, items-end, alternatives-more, alternatives-last}

and-true : (x : Bool) → (x && true) ≡ x
and-true true = refl
and-true false = refl

module _ {A : Type 0} (p : A → Bool) (a : A) (l : List A) where
  every-cons : p a ≡ true → every p (a ∷ l) ≡ every p l
  unfolding every
  every-cons e = rw e

  every-not : p a ≡ false → every p (a ∷ l) ≡ false
  unfolding every
  every-not e = rw e

every-nil : {A : Type 0} (p : A → Bool) → every p [] ≡ true
unfolding every
every-nil p = refl

every_one : {A : Type 0} (p : A → Bool) (a : A) → every p (a ∷ []) ≡ p a
unfolding every
every_one p a = and-true (p a)

-- literals, of which each is of the kind p, are passed over
module _ {A : Type 0} (p : A → Bool) (f : ℕ → A) (good : (b : ℕ) → p (f b) ≡ true) where
  every-passed : (l : List ℕ) (r : List A) → every p (map f l ++ r) ≡ every p r
  every-passed [] r = refl
  every-passed (b ∷ l) r = every-cons p (f b) (map f l ++ r) (good b) ∙ every-passed l r

-- the parts of the bytes s from place i on, of which each literal is of the kind p
module _ (p : Part → Bool) (good : (b : ℕ) → p (literal_part b) ≡ true) (s : List ℕ) (i : ℕ) where
  pub parts-literals : (next : ℕ) → next ≡ i + run ordinary (drop i s) → every p (parts 0 (drop i s)) ≡ every p (parts 0 (drop next s))
  parts-literals next n =
      ap (every p) (parts-run (drop i s))
      ∙ every-passed p literal_part good (take (run ordinary (drop i s)) (drop i s)) _
      ∙ ap (λ (l : List ℕ). every p (parts 0 l)) (drop-drop (run ordinary (drop i s)) i s ∙ ap (λ (k : ℕ). drop k s) (sym n))

  pub parts_all : {whole : Bool} → length s ≤ i → every p (parts 0 (drop i s)) ≡ whole → true ≡ whole
  parts_all h w = sym (every-nil p) ∙ ap (every p) (sym (parts-end s i h)) ∙ w

-- x was read at place i, and y says whether it is of the kind p
module _ (p : Part → Bool) (good : (b : ℕ) → p (literal_part b) ≡ true) (s t : List ℕ) (e : s ≡ t) (i : ℕ) (x : Part) (read : x ≡ part_at t i)
    {y whole : Bool} (told : y ≡ p x) (h : i < length s) (w : every p (parts 0 (drop i s)) ≡ whole) where
  at_part : p (part_at s i) ≡ y
  at_part = rw e (ap p (sym read) ∙ sym told)

  pub parts_more : y ≡ true → {next later : ℕ} → next ≡ part_end s i → later ≡ next + run ordinary (drop next s) → every p (parts 0 (drop later s)) ≡ whole
  parts_more z {next} {later} n l =
      sym (parts-literals p good s next later l)
      ∙ sym (ap (every p) (parts_at s i next h n) ∙ every-cons p (part_at s i) (parts 0 (drop next s)) (at_part ∙ z)) ∙ w

  pub parts-stop : y ≡ false → false ≡ whole
  parts-stop z = sym (ap (every p) (parts_at s i (part_end s i) h refl) ∙ every-not p (part_at s i) (parts 0 (drop (part_end s i) s)) (at_part ∙ z)) ∙ w

-- the items of the bytes s from place i on, of which each literal is of the kind p
module _ (p : Item → Bool) (good : (b : ℕ) → p (literal_item b) ≡ true) (s : List ℕ) (i : ℕ) where
  pub items-literals : (next : ℕ) → next ≡ i + run ordinary (drop i s) → every p (items 0 (drop i s)) ≡ every p (items 0 (drop next s))
  items-literals next n =
      ap (every p) (items-run (drop i s))
      ∙ every-passed p literal_item good (take (run ordinary (drop i s)) (drop i s)) _
      ∙ ap (λ (l : List ℕ). every p (items 0 l)) (drop-drop (run ordinary (drop i s)) i s ∙ ap (λ (k : ℕ). drop k s) (sym n))

  pub items-all : {whole : Bool} → length s ≤ i → every p (items 0 (drop i s)) ≡ whole → true ≡ whole
  items-all h w = sym (every-nil p) ∙ ap (every p) (sym (items-end s i h)) ∙ w

-- x was read at place i, and y says whether it is of the kind p
module _ (p : Item → Bool) (good : (b : ℕ) → p (literal_item b) ≡ true) (s t : List ℕ) (e : s ≡ t) (i : ℕ) (x : Item) (read : x ≡ item_at t i)
    {y whole : Bool} (told : y ≡ p x) (h : i < length s) (w : every p (items 0 (drop i s)) ≡ whole) where
  at_item : p (item_at s i) ≡ y
  at_item = rw e (ap p (sym read) ∙ sym told)

  pub items_more : y ≡ true → {next later : ℕ} → next ≡ item_end s i → later ≡ next + run ordinary (drop next s) → every p (items 0 (drop later s)) ≡ whole
  items_more z {next} {later} n l =
      sym (items-literals p good s next later l)
      ∙ sym (ap (every p) (items_at s i next h n) ∙ every-cons p (item_at s i) (items 0 (drop next s)) (at_item ∙ z)) ∙ w

  pub items-stop : y ≡ false → false ≡ whole
  items-stop z = sym (ap (every p) (items_at s i (item_end s i) h refl) ∙ every-not p (item_at s i) (items 0 (drop (item_end s i) s)) (at_item ∙ z)) ∙ w

-- the alternatives of the span s from a to e of a text, from place i on, where j is the next comma or the end
module _ (p : List ℕ → Bool) (text s : List ℕ) (a e i j : ℕ) (q : s ≡ span text a e) (at : j ≡ i + before (code ",") 0 (drop i s)) (b : j ≤ length s) where
  same_span : span s i j ≡ span text (a + i) (a + j)
  same_span = rw q (span-span text a e i j (rw q at b))

  pub every_more : j < length s → p (span text (a + i) (a + j)) ≡ true → every p (alternatives (drop i s)) ≡ every p (alternatives (drop (j + 1) s))
  every_more h y =
      ap (every p) (alternatives-more s i j at h) ∙ every-cons p (span s i j) (alternatives (drop (j + 1) s)) (ap p same_span ∙ y)

  pub every-last : length s ≤ j → every p (alternatives (drop i s)) ≡ p (span text (a + i) (a + j))
  every-last h = ap (every p) (alternatives-last s i j at h) ∙ every_one p (span s i j) ∙ ap p same_span

  pub every-stop : p (span text (a + i) (a + j)) ≡ false → every p (alternatives (drop i s)) ≡ false
  every-stop y = go (ltb j (length s)) refl
    where
      go : (x : Bool) → ltb j (length s) ≡ x → every p (alternatives (drop i s)) ≡ false
      go true k =
          ap (every p) (alternatives-more s i j at (ltb-true j (length s) k)) ∙ every-not p (span s i j) (alternatives (drop (j + 1) s)) (ap p same_span ∙ y)
      go false k = every-last (ltb-false j (length s) k) ∙ y

-- two alternatives or more, where there is a comma
pub parted : (s : List ℕ) (j : ℕ) → j ≡ 0 + before (code ",") 0 (drop 0 s) → ltb j (length s) ≡ leb 2 (length (alternatives s))
parted s j at = go (ltb j (length s)) refl
  where
    go : (x : Bool) → ltb j (length s) ≡ x → x ≡ leb 2 (length (alternatives s))
    go true e =
        let h : length (alternatives s) ≡ suc (length (alternatives (drop (j + 1) s))) = ap length (alternatives-more s 0 j at (ltb-true j (length s) e)) in
        sym (le-leb 2 (length (alternatives s)) (omega arith))
    go false e =
        let h : length (alternatives s) ≡ 1 = ap length (alternatives-last s 0 j at (ltb-false j (length s) e)) in
        sym (lt-leb 2 (length (alternatives s)) (omega arith))
