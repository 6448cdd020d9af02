-- What respects the ways of putting choices together respects the choices of a pattern.
use Prim.Native.Nat.{ℕ}
use mathlib.Core.Path.{◌≡◌, refl, sym, ap₂, ◌∙◌}
use mathlib.Core.List.{List, [], ◌∷◌}
use mathlib.Core.Bool.{Bool, true, false}
use lib.ListN.{length, length-append}
use Rattle.scan.specs.Bytes.{same}
use Rattle.pattern.specs.Pieces.{Piece, Part, Is, Use, Bad, parts}
use Rattle.pattern.specs.Items.{Item, Single, Among, items}
use Rattle.pattern.specs.Expansions.{Choices, of_part, of_parts, one_of, of_name, of_item, of_items, of_pattern, Variable, listing, counting, expansions, count}
use Rattle.sizes.proofs.Across.{length-across}

pub record Hom {A B : Type 0} (D : Choices A) (E : Choices B) (h : A → B) : Type 0 where
  pub piece : (p : Piece) → h (D.piece p) ≡ E.piece p
  pub empty : h D.empty ≡ E.empty
  pub beside : (a b : A) → h (D.beside a b) ≡ E.beside (h a) (h b)
  pub none : h D.none ≡ E.none
  pub either : (a b : A) → h (D.either a b) ≡ E.either (h a) (h b)

module _ {A B : Type 0} {D : Choices A} {E : Choices B} {h : A → B} (k : Hom D E h) where
  -- f and g give the choices of a name
  module _ (f : List ℕ → A) (g : List ℕ → B) (e : (n : List ℕ) → h (f n) ≡ g n) where
    hom-part : (t : Part) → h (of_part D f t) ≡ of_part E g t
    hom-part (Is p) = k.piece p
    hom-part (Use n) = e n
    hom-part Bad = k.none

    pub hom-parts : (ts : List Part) → h (of_parts D f ts) ≡ of_parts E g ts
    unfolding of_parts
    hom-parts [] = k.empty
    hom-parts (t ∷ ts) = k.beside (of_part D f t) (of_parts D f ts) ∙ ap₂ E.beside (hom-part t) (hom-parts ts)

    pub hom-one : (ss : List (List ℕ)) → h (one_of D f ss) ≡ one_of E g ss
    unfolding one_of
    hom-one [] = k.none
    hom-one (s ∷ ss) = k.either (of_parts D f (parts 0 s)) (one_of D f ss) ∙ ap₂ E.either (hom-parts (parts 0 s)) (hom-one ss)

    hom-item : (i : Item) → h (of_item D f i) ≡ of_item E g i
    hom-item (Single t) = hom-part t
    hom-item (Among ss) = hom-one ss

    pub hom-items : (is : List Item) → h (of_items D f is) ≡ of_items E g is
    unfolding of_items
    hom-items [] = k.empty
    hom-items (i ∷ is) = k.beside (of_item D f i) (of_items D f is) ∙ ap₂ E.beside (hom-item i) (hom-items is)

  pub hom-name : (vs : List Variable) (n : List ℕ) → h (of_name D vs n) ≡ of_name E vs n
  unfolding of_name
  hom-name [] n = k.none
  hom-name (v ∷ vs) n = go (same v.name n) (hom-name vs)
    where
      go : (x : Bool) → ((m : List ℕ) → h (of_name D vs m) ≡ of_name E vs m) →
          h (elim x as (λ _. A) [ true ↦ one_of D (of_name D vs) v.values | false ↦ of_name D vs n ])
          ≡ elim x as (λ _. B) [ true ↦ one_of E (of_name E vs) v.values | false ↦ of_name E vs n ]
      go true e = hom-one (of_name D vs) (of_name E vs) e v.values
      go false e = e n

  pub hom-pattern : (vs : List Variable) (s : List ℕ) → h (of_pattern D vs s) ≡ of_pattern E vs s
  hom-pattern vs s = hom-items (of_name D vs) (of_name E vs) (hom-name vs) (items 0 s)

-- the number of choices is the length of their list
length_hom : Hom listing counting length
length_hom =
    record {
      piece = λ p. refl;
      empty = refl;
      beside = length-across;
      none = refl;
      either = λ a b. length-append a b;
    }

pub count-length : (vs : List Variable) (s : List ℕ) → count vs s ≡ length (expansions vs s)
unfolding count expansions
count-length vs s = sym (hom-pattern length_hom vs s)
