-- The expansions under a right table of sizes are those of the list, by size and by number.
use Rattle.std.specs.Prelude.{if◌then◌else◌}
use Prim.Native.Nat.{ℕ, zero, suc, ◌*◌, ◌-◌, ◌/◌, ◌%◌, ◌≤◌, ◌<◌, min}
use mathlib.Core.Path.{◌≡◌, refl, sym, ap₂, ◌∙◌}
use mathlib.Core.List.{List, [], ◌∷◌, ◌++◌}
use mathlib.Core.Bool.{Bool, true, false}
use lib.ListN.{length, get_or}
use lib.Dec.{ltb}
use borrow.Author.Tests.{ne_eqb, ltb-true, ltb-false}
use native.Mathlib.Nat.{not-suc-le-zero}
use native.Mathlib.Omega.{arith}
use Rattle.scan.specs.Bytes.{same}
use Rattle.pattern.specs.Pieces.{Piece, Part, Is, Use, Bad, parts}
use Rattle.pattern.specs.Items.{Item, Single, Among, items}
use Rattle.pattern.specs.Expansions.{listing, of_part, of_parts, one_of, of_name, of_item, of_items, expansions}
use Rattle.pattern.specs.Table.{bytes_at, values_of, variables, env}
use Rattle.sizes.specs.Sizes.{size_of, times_of, plus_of, size_at, Known, part_choices, value_choices, one_choices, item_choices}
use Rattle.sizes.specs.Numbered.{Numbered, low_of, high_of, numbering, name_by, part_by, value_by, one_by, item_by, pattern_by}
use Rattle.sizes.proofs.Across.{split, here, there}
use Rattle.sizes.proofs.Laws.{size-across, size-append, size-count, size-nil, size_none, size-piece}

-- ---- digits

low-some : (d base : ℕ) → 0 < base → low_of d base ≡ d % base
unfolding low_of
low-some d base h = rw (ne_eqb base 0 (λ q. omega arith), low_of)

high-some : (d base : ℕ) → 0 < base → high_of d base ≡ d / base
unfolding high_of
high-some d base h = rw (ne_eqb base 0 (λ q. omega arith), high_of)

-- ---- the size is that of the list, and so is each expansion with a number below 257

pub record Right (a : Numbered) (xs : List (List Piece)) : Type 0 where
  pub size : a.size ≡ size_of xs
  pub nth : (d : ℕ) → d < 257 → d < length xs → a.nth d ≡ get_or xs d []

right-piece : (p : Piece) → Right (numbering.piece p) (listing.piece p)
right-piece p = record { size = sym (size-piece p); nth = λ d s h. let e : d ≡ 0 = omega arith in rw e }

right-empty : Right numbering.empty listing.empty
right-empty = record { size = sym size-nil; nth = λ d s h. let e : d ≡ 0 = omega arith in rw e }

right-none : Right numbering.none listing.none
right-none = record { size = sym size_none; nth = λ d s h. absurd (not-suc-le-zero h) }

module _ {a b : Numbered} {xs ts : List (List Piece)} (p : Right a xs) (q : Right b ts) where
  right-beside : Right (numbering.beside a b) (listing.beside xs ts)
  right-beside =
      record {
        size = ap₂ times_of p.size q.size ∙ size-across xs ts;
        nth = λ d s h.
            let w = split xs ts d a.size.count (size-count xs p.size) s h in
            rw (low-some d a.size.count w.positive, high-some d a.size.count w.positive)
            (ap₂ (λ (x y : List Piece). x ++ y) (p.nth _ w.low_small w.low) (q.nth _ w.high_small w.high) ∙ sym w.whole);
      }

  right-either : Right (numbering.either a b) (listing.either xs ts)
  right-either =
      record {
        size = ap₂ plus_of p.size q.size ∙ size-append xs ts;
        nth = λ d s h. go d s h (ltb d a.size.count) refl;
      }
    where
      go : (d : ℕ) → d < 257 → d < length (xs ++ ts) → (x : Bool) → ltb d a.size.count ≡ x →
          (if x then a.nth d else b.nth (d - a.size.count)) ≡ get_or (xs ++ ts) d []
      go d s h true e =
          let w = here xs ts d a.size.count (size-count xs p.size) (ltb-true d a.size.count e) in
          p.nth d s w.0 ∙ sym w.1
      go d s h false e =
          let w = there xs ts d a.size.count (size-count xs p.size) (ltb-false d a.size.count e) s h in
          q.nth (d - a.size.count) (omega arith) w.0 ∙ sym w.1

-- ---- what is put together of right names is right

module _ (f : List ℕ → Numbered) (g : List ℕ → List (List Piece)) (e : (n : List ℕ) → Right (f n) (g n)) where
  right-part : (t : Part) → Right (of_part numbering f t) (of_part listing g t)
  right-part (Is p) = right-piece p
  right-part (Use n) = e n
  right-part Bad = right-none

  right-parts : (ts : List Part) → Right (of_parts numbering f ts) (of_parts listing g ts)
  unfolding of_parts
  right-parts [] = right-empty
  right-parts (t ∷ ts) = right-beside (right-part t) (right-parts ts)

  right-one : (ss : List (List ℕ)) → Right (one_of numbering f ss) (one_of listing g ss)
  unfolding one_of
  right-one [] = right-none
  right-one (s ∷ ss) = right-either (right-parts (parts 0 s)) (right-one ss)

  right-item : (i : Item) → Right (of_item numbering f i) (of_item listing g i)
  right-item (Single t) = right-part t
  right-item (Among ss) = right-one ss

  right-items : (is : List Item) → Right (of_items numbering f is) (of_items listing g is)
  unfolding of_items
  right-items [] = right-empty
  right-items (i ∷ is) = right-beside (right-item i) (right-items is)

-- ---- under a right table

module _ {text vars : List ℕ} {n : ℕ} {table : List ℕ} (k : Known text vars n table) where
  names : (w : ℕ) → w ≤ min 32 n → (name : List ℕ) → Right (name_by text vars table w name) (of_name listing (variables text vars w) name)
  unfolding name_by of_name variables
  names zero h name = record { size = k.right 0 (omega arith); nth = λ d s l. absurd (not-suc-le-zero l) }
  names (suc w) h name = go (same (bytes_at text vars (2 * w)) name) (names w (omega arith))
    where
      go : (x : Bool) → ((m : List ℕ) → Right (name_by text vars table w m) (of_name listing (variables text vars w) m)) →
          Right
          (elim x as (λ _. Numbered) [
            | true ↦ record { size = size_at table (suc w); nth = (one_of numbering (name_by text vars table w) (values_of text vars w)).nth }
            | false ↦ name_by text vars table w name
          ])
          (elim x as (λ _. List (List Piece)) [
            | true ↦ one_of listing (of_name listing (variables text vars w)) (values_of text vars w)
            | false ↦ of_name listing (variables text vars w) name
          ])
      go true r =
          record {
            size = k.right (suc w) h;
            nth = (right-one (name_by text vars table w) (of_name listing (variables text vars w)) r (values_of text vars w)).nth;
          }
      go false r = r name

  pub name-right : (name : List ℕ) → Right (name_by text vars table (min 32 n) name) (of_name listing (env text vars n) name)
  name-right = names (min 32 n) (omega arith)

  pub part_right : (p : Part) → Right (part_by text vars n table p) (part_choices (env text vars n) p)
  part_right = right-part _ _ name-right

  pub value-right : (s : List ℕ) → Right (value_by text vars n table s) (value_choices (env text vars n) s)
  value-right s = right-parts _ _ name-right (parts 0 s)

  pub one_right : (ss : List (List ℕ)) → Right (one_by text vars n table ss) (one_choices (env text vars n) ss)
  one_right = right-one _ _ name-right

  pub item-right : (i : Item) → Right (item_by text vars n table i) (item_choices (env text vars n) i)
  item-right = right-item _ _ name-right

  pub pattern-right : (s : List ℕ) → Right (pattern_by text vars n table s) (expansions (env text vars n) s)
  unfolding expansions
  pattern-right s = right-items _ _ name-right (items 0 s)
