-- What the definitions of parts and items say at a place.
use Rattle.std.specs.Prelude.{if◌then◌else◌}
use Prim.Native.Nat.{ℕ, zero, suc, ◌+◌, ◌*◌, ◌-◌, ◌≤◌, ◌<◌}
use Prim.Native.Char.{code}
use mathlib.Core.Path.{◌≡◌, refl, sym, ap, ◌∙◌}
use mathlib.Core.List.{List, [], ◌∷◌}
use mathlib.Core.Bool.{Bool, true, false, not, ◌||◌, ◌&&◌}
use lib.ListN.{length, get_or, take, drop, length-take, length-drop, drop_of_length-le}
use lib.Seq.{drop-cons, drop-drop, take-take, get_or-drop}
use lib.Dec.{eqb, ltb}
use borrow.Author.Tests.{ltb-true, lt-ltb, le-ltb, eq-eqb, ne_eqb, eqb-true}
use native.Mathlib.Nat.{zero-add, not-suc-le-zero, le_of_suc-le-suc}
use native.Mathlib.Numerals.{add-one}
use native.Mathlib.Omega.{arith}
use Rattle.scan.specs.Bytes.{begins, run, same, some, span}
use Rattle.scan.proofs.Laws.{run_take, drop-span, span-span}
use Rattle.class.specs.Class.{good_class}
use Rattle.pattern.specs.Pieces.{Byte, One, Star, StarStar, Class, Part, Is, Use, Bad, Start, start, starting, up_to, extra, escaped, class_part, use_part, part, parts}
use Rattle.pattern.specs.Items.{Item, Single, Among, before, body, is_closed, after_comma, alternatives, item, reach, items}
use Rattle.pattern.specs.Codes.{bracketed, decode, not_close}
use Rattle.pattern.proofs.Codes.{decode-byte, decode-one, decode-star, decode-stars, decode-place}
use Rattle.pattern.specs.Places.{part_at, part_end, item_at, item_end, lone}
use Rattle.pattern.specs.Expansions.{Variable, is_set}
use Rattle.pattern.specs.Table.{bytes_at, variables, number_of}
use Rattle.pattern.specs.Reads.{Seen, escape_of, star_of, single_of, class_after, use_after}
use Rattle.pattern.specs.declared.PartRead.TheVariants as read
use Rattle.pattern.specs.declared.PieceRead.TheVariants as piece

pub cons-at : (s : List ℕ) (i : ℕ) → i < length s → drop i s ≡ get_or s i 0 ∷ drop (i + 1) s
cons-at s i h = rw add-one (drop-cons s i 0 h)

-- ---- where a part ends

if-le : (t : Bool) (a b n : ℕ) → (t ≡ true → a ≤ n) → (t ≡ false → b ≤ n) → (if t then a else b) ≤ n
if-le true a b n f g = f refl
if-le false a b n f g = g refl

pub up_to-le : (c : ℕ) (s : List ℕ) → up_to c s ≤ length s
unfolding up_to
up_to-le c s = if-le (ltb (run (λ b. not (eqb b c)) s) (length s)) _ _ (length s) (λ e. ltb-true _ _ e) (λ e. omega arith)

begins-le : (c : ℕ) (s : List ℕ) → begins c s ≡ true → 1 ≤ length s
begins-le c [] e = let z : ◌≡◌ {A = ℕ} 0 1 = cc in absurd (omega arith)
begins-le c (b ∷ s) e = omega arith

-- how many bytes belong to a part, by the tests that matter
abbrev pub extra_by : ℕ → List ℕ → ℕ
extra_by b s =
    if eqb b (code "\\") then length (take 1 s)
    else if eqb b (code "*") then (if begins (code "*") s then 1 else 0)
    else if eqb b (code "[") then up_to (code "]") s
    else if eqb b (code "@") && begins (code "{") s then up_to (code "}") s
    else 0

more-if : (x : Bool) (a b : Start) (m n : ℕ) → a.more ≡ m → b.more ≡ n → (if x then a else b).more ≡ (if x then m else n)
more-if true a b m n e f = e
more-if false a b m n e f = f

pub extra-by : (b : ℕ) (s : List ℕ) → extra b s ≡ extra_by b s
unfolding extra starting
extra-by b s = one (eqb b (code "?")) refl
  where
    none : (x : Bool) → (if x then start Bad 0 else start (Is (Byte b)) 0).more ≡ 0
    none true = refl
    none false = refl

    one : (x : Bool) → eqb b (code "?") ≡ x → extra b s ≡ extra_by b s
    one true e = rw (eqb-true b (code "?") e)
    one false e =
        rw (e, extra, starting)
        (more-if (eqb b (code "\\")) _ _ _ _ refl
        (more-if (eqb b (code "*")) _ _ _ _ (more-if (begins (code "*") s) _ _ _ _ refl refl)
        (more-if (eqb b (code "[")) _ _ _ _ refl
        (more-if (eqb b (code "@") && begins (code "{") s) _ _ _ _ refl (none (lone b))))))

pub extra-le : (b : ℕ) (s : List ℕ) → extra b s ≤ length s
extra-le b s =
    rw (extra-by b s)
    (if-le (eqb b (code "\\")) _ _ (length s) (λ _. omega (arith, length-take 1 s))
    (λ _. if-le (eqb b (code "*")) _ _ (length s) (λ _. if-le (begins (code "*") s) 1 0 (length s) (begins-le (code "*") s) (λ _. omega arith))
    (λ _. if-le (eqb b (code "[")) _ _ (length s) (λ _. up_to-le (code "]") s)
    (λ _. if-le (eqb b (code "@") && begins (code "{") s) _ _ (length s) (λ _. up_to-le (code "}") s)
    (λ _. omega arith)))))

module _ (s : List ℕ) (i : ℕ) where
  pub part_end-in : i < length s → part_end s i ≡ i + 1 + extra (get_or s i 0) (drop (i + 1) s)
  unfolding part_end
  part_end-in h = rw (lt-ltb i (length s) h, part_end)

  pub part_end-end : length s ≤ i → part_end s i ≡ length s
  unfolding part_end
  part_end-end h = rw (le-ltb i (length s) h, part_end)

  pub part_end-le : part_end s i ≤ length s
  unfolding part_end
  part_end-le =
      if-le (ltb i (length s)) _ _ (length s)
      (λ e. omega (arith, ltb-true i (length s) e, extra-le (get_or s i 0) (drop (i + 1) s), length-drop (i + 1) s)) (λ e. omega arith)

  pub part_end-more : i < length s → i < part_end s i
  part_end-more h = omega (arith, part_end-in h)

  -- ---- parts

  pub part_at-in : i < length s → part_at s i ≡ part (get_or s i 0) (drop (i + 1) s)
  part_at-in h = rw (cons-at s i h)

  pub part_at-end : length s ≤ i → part_at s i ≡ Bad
  part_at-end h = rw (drop_of_length-le s h)

pub parts-skip : (k : ℕ) (s : List ℕ) → parts k s ≡ parts 0 (drop k s)
unfolding parts
parts-skip zero s = refl
parts-skip (suc k) [] = refl
parts-skip (suc k) (b ∷ s) = parts-skip k s

module _ (s : List ℕ) (i : ℕ) where
  -- the part at a place, and those after it
  pub parts_at : (next : ℕ) → i < length s → next ≡ part_end s i → parts 0 (drop i s) ≡ part_at s i ∷ parts 0 (drop next s)
  unfolding parts
  parts_at next h e =
      let x = extra (get_or s i 0) (drop (i + 1) s) in
      rw (cons-at s i h, parts)
      (ap (λ (l : List Part). part (get_or s i 0) (drop (i + 1) s) ∷ l)
      (parts-skip x (drop (i + 1) s) ∙ ap (parts 0) (drop-drop x (i + 1) s ∙ ap (λ (n : ℕ). drop n s) (sym (e ∙ part_end-in s i h)))))

  pub parts-end : length s ≤ i → parts 0 (drop i s) ≡ []
  unfolding parts
  parts-end h = rw (drop_of_length-le s h)

-- ---- a byte outside parts

before-skip : (c k : ℕ) (s : List ℕ) → k ≤ length s → before c k s ≡ k + before c 0 (drop k s)
unfolding before
before-skip c zero s h = rw zero-add
before-skip c (suc k) [] h = absurd (not-suc-le-zero h)
before-skip c (suc k) (b ∷ s) h = omega (arith, before-skip c k s (le_of_suc-le-suc h))

pub before-le : (c k : ℕ) (s : List ℕ) → before c k s ≤ length s
unfolding before
before-le c k [] = omega arith
before-le c (suc k) (b ∷ s) = omega (arith, before-le c k s)
before-le c zero (b ∷ s) = go (eqb b c) (before-le c (extra b s) s)
  where
    go : (x : Bool) → before c (extra b s) s ≤ length s → (elim x as (λ _. ℕ) [ true ↦ 0 | false ↦ suc (before c (extra b s) s) ]) ≤ suc (length s)
    go true h = omega arith
    go false h = omega arith

module _ (c : ℕ) (s : List ℕ) (i : ℕ) where
  -- the place that is found is in the text or its end
  pub seek-le : i ≤ length s → i + before c 0 (drop i s) ≤ length s
  seek-le h = omega (arith, before-le c 0 (drop i s), length-drop i s)

  pub before_more : (next : ℕ) → i < length s → (get_or s i 0 ≡ c → ⊥) → next ≡ part_end s i →
      next + before c 0 (drop next s) ≡ i + before c 0 (drop i s)
  unfolding before
  before_more next h e n =
      let x = extra (get_or s i 0) (drop (i + 1) s) in
      let m : next ≡ i + 1 + x = n ∙ part_end-in s i h in
      let k : before c x (drop (i + 1) s) ≡ x + before c 0 (drop x (drop (i + 1) s)) =
      before-skip c x (drop (i + 1) s) (extra-le (get_or s i 0) (drop (i + 1) s)) in
      let d : drop x (drop (i + 1) s) ≡ drop next s = drop-drop x (i + 1) s ∙ ap (λ (j : ℕ). drop j s) (sym m) in
      let q : before c 0 (drop i s) ≡ suc (x + before c 0 (drop next s)) =
      rw (cons-at s i h, ne_eqb (get_or s i 0) c e, before) (ap suc (k ∙ ap (λ (l : List ℕ). x + before c 0 l) d)) in
      omega arith

  pub before-stop : i < length s → get_or s i 0 ≡ c → before c 0 (drop i s) ≡ 0
  unfolding before
  before-stop h e = rw (cons-at s i h, eq-eqb (get_or s i 0) c e, before)

  pub before-end : length s ≤ i → before c 0 (drop i s) ≡ 0
  unfolding before
  before-end h = rw (drop_of_length-le s h)

-- ---- alternatives

after_comma-skip : (k : ℕ) (s : List ℕ) → after_comma k s ≡ after_comma 0 (drop k s)
unfolding after_comma
after_comma-skip zero s = refl
after_comma-skip (suc k) [] = refl
after_comma-skip (suc k) (b ∷ s) = after_comma-skip k s

-- the alternative from i to before the comma at j, or the end, and those after it
module _ (s : List ℕ) (i j : ℕ) (at : j ≡ i + before (code ",") 0 (drop i s)) where
  alternatives-cut : alternatives (drop i s) ≡ span s i j ∷ after_comma 0 (drop j s)
  alternatives-cut =
      let x = before (code ",") 0 (drop i s) in
      let e : j - i ≡ x = omega arith in
      rw e
      (ap (λ (l : List (List ℕ)). take x (drop i s) ∷ l)
      (after_comma-skip x (drop i s) ∙ ap (after_comma 0) (drop-drop x i s ∙ ap (λ (n : ℕ). drop n s) (sym at))))

  pub alternatives-more : j < length s → alternatives (drop i s) ≡ span s i j ∷ alternatives (drop (j + 1) s)
  unfolding after_comma
  alternatives-more h = alternatives-cut ∙ ap (λ (l : List (List ℕ)). span s i j ∷ l) (rw (cons-at s j h, after_comma))

  pub alternatives-last : length s ≤ j → alternatives (drop i s) ≡ span s i j ∷ []
  unfolding after_comma
  alternatives-last h = alternatives-cut ∙ ap (λ (l : List (List ℕ)). span s i j ∷ l) (rw (drop_of_length-le s h))

-- ---- items

pub reach-le : (b : ℕ) (s : List ℕ) → reach b s ≤ length s
unfolding reach
reach-le b s =
    if-le (eqb b (code "{") && is_closed s) _ _ (length s) (λ e. closed (eqb b (code "{")) e) (λ _. extra-le b s)
  where
    closed : (x : Bool) → (x && is_closed s) ≡ true → suc (length (body s)) ≤ length s
    closed true e = omega (arith, ltb-true (before (code "}") 0 s) (length s) e, length-take (before (code "}") 0 s) s)
    closed false e = let z : ◌≡◌ {A = ℕ} 0 1 = cc in absurd (omega arith)

pub items-skip : (k : ℕ) (s : List ℕ) → items k s ≡ items 0 (drop k s)
unfolding items
items-skip zero s = refl
items-skip (suc k) [] = refl
items-skip (suc k) (b ∷ s) = items-skip k s

module _ (s : List ℕ) (i : ℕ) where
  pub item_end-in : i < length s → item_end s i ≡ i + 1 + reach (get_or s i 0) (drop (i + 1) s)
  unfolding item_end
  item_end-in h = rw (lt-ltb i (length s) h, item_end)

  pub item_end-end : length s ≤ i → item_end s i ≡ length s
  unfolding item_end
  item_end-end h = rw (le-ltb i (length s) h, item_end)

  pub item_end-le : item_end s i ≤ length s
  unfolding item_end
  item_end-le =
      if-le (ltb i (length s)) _ _ (length s)
      (λ e. omega (arith, ltb-true i (length s) e, reach-le (get_or s i 0) (drop (i + 1) s), length-drop (i + 1) s)) (λ e. omega arith)

  pub item_end-more : i < length s → i < item_end s i
  item_end-more h = omega (arith, item_end-in h)

  pub item_at-end : length s ≤ i → item_at s i ≡ Single Bad
  item_at-end h = rw (drop_of_length-le s h)

  pub item_at-in : i < length s → item_at s i ≡ item (get_or s i 0) (drop (i + 1) s)
  item_at-in h = rw (cons-at s i h)

  -- the item at a place, and those after it
  pub items_at : (next : ℕ) → i < length s → next ≡ item_end s i → items 0 (drop i s) ≡ item_at s i ∷ items 0 (drop next s)
  unfolding items
  items_at next h e =
      let x = reach (get_or s i 0) (drop (i + 1) s) in
      rw (cons-at s i h, items)
      (ap (λ (l : List Item). item (get_or s i 0) (drop (i + 1) s) ∷ l)
      (items-skip x (drop (i + 1) s) ∙ ap (items 0) (drop-drop x (i + 1) s ∙ ap (λ (n : ℕ). drop n s) (sym (e ∙ item_end-in h)))))

  pub items-end : length s ≤ i → items 0 (drop i s) ≡ []
  unfolding items
  items-end h = rw (drop_of_length-le s h)

-- an alternation from i to the brace at j, or none
module _ (s : List ℕ) (i j : ℕ) (h : i < length s) (b : get_or s i 0 ≡ code "{") (at : j ≡ i + 1 + before (code "}") 0 (drop (i + 1) s)) where
  closed : j < length s → is_closed (drop (i + 1) s) ≡ true
  closed k = lt-ltb (before (code "}") 0 (drop (i + 1) s)) (length (drop (i + 1) s)) (omega (arith, length-drop (i + 1) s))

  unclosed : length s ≤ j → is_closed (drop (i + 1) s) ≡ false
  unclosed k = le-ltb (before (code "}") 0 (drop (i + 1) s)) (length (drop (i + 1) s)) (omega (arith, length-drop (i + 1) s))

  pub item_at-among : j < length s → item_at s i ≡ Among (alternatives (span s (i + 1) j))
  unfolding item
  item_at-among k =
      let e : j - (i + 1) ≡ before (code "}") 0 (drop (i + 1) s) = omega arith in
      item_at-in s i h ∙ rw (eq-eqb _ _ b, closed k, item, e)

  pub item_end-among : j < length s → item_end s i ≡ j + 1
  unfolding reach
  item_end-among k =
      let e : reach (get_or s i 0) (drop (i + 1) s) ≡ suc (length (body (drop (i + 1) s))) = rw (eq-eqb _ _ b, closed k, reach) in
      omega (arith, item_end-in s i h, length-take (before (code "}") 0 (drop (i + 1) s)) (drop (i + 1) s), before-le (code "}") 0 (drop (i + 1) s))

  pub item_at-open : length s ≤ j → item_at s i ≡ Single (part_at s i)
  unfolding item
  item_at-open k = item_at-in s i h ∙ rw (eq-eqb _ _ b, unclosed k, item) (ap Single (sym (part_at-in s i h)))

  pub item_end-open : length s ≤ j → item_end s i ≡ part_end s i
  unfolding reach
  item_end-open k =
      item_end-in s i h ∙ rw (eq-eqb _ _ b, unclosed k, reach) (sym (part_end-in s i h))

module _ (s : List ℕ) (i : ℕ) (h : i < length s) (b : get_or s i 0 ≡ code "{" → ⊥) where
  pub item_at-single : item_at s i ≡ Single (part_at s i)
  unfolding item
  item_at-single = item_at-in s i h ∙ rw (ne_eqb _ _ b, item) (ap Single (sym (part_at-in s i h)))

  pub item_end-single : item_end s i ≡ part_end s i
  unfolding reach
  item_end-single = item_end-in s i h ∙ rw (ne_eqb _ _ b, reach) (sym (part_end-in s i h))

-- ---- parts as they are read

class-in : (l : List ℕ) (m : ℕ) → (up_to (code "]") (take m l) ≡ 0 → ⊥) → take (run not_close l) l ≡ take (up_to (code "]") (take m l) - 1) (take m l)
unfolding up_to
class-in l m z = go (ltb (run not_close (take m l)) (length (take m l))) refl z
  where
    go : (x : Bool) → ltb (run not_close (take m l)) (length (take m l)) ≡ x → ((if x then suc (run not_close (take m l)) else 0) ≡ 0 → ⊥) →
        take (run not_close l) l ≡ take ((if x then suc (run not_close (take m l)) else 0) - 1) (take m l)
    go true e y =
        let h : run not_close (take m l) < length (take m l) = ltb-true _ _ e in
        let k : suc (run not_close (take m l)) - 1 ≡ run not_close (take m l) = omega arith in
        rw (k, run_take not_close m l h) (sym (take-take (run not_close (take m l)) m l (omega (arith, length-take m l))))
    go false e y = absurd (y refl)

-- a class that is closed in its span, by its place in the text
pub class-seen : (text : List ℕ) (a e i n : ℕ) → n ≡ up_to (code "]") (drop i (span text a e)) → (n ≡ 0 → ⊥) →
    decode text (65536 + (a + i)) ≡ Class (take (n - 1) (drop i (span text a e)))
unfolding bracketed
class-seen text a e i n q z =
    let y : up_to (code "]") (span text (a + i) e) ≡ 0 → ⊥ = λ w. z (q ∙ ap (up_to (code "]")) (drop-span text a e i) ∙ w) in
    decode-place text (a + i) ∙ ap Class (rw (q, drop-span text a e i) (class-in (drop (a + i) text) (e - (a + i)) y))

-- the part of a class of n bytes with its bracket
pub class-some : (s : List ℕ) (n : ℕ) → (n ≡ 0 → ⊥) → class_part s n ≡ (if good_class (take (n - 1) s) then Is (Class (take (n - 1) s)) else Bad)
class-some s zero z = absurd (z refl)
class-some s (suc n) z = let e : suc n - 1 ≡ n = omega arith in rw e

pub use-seen : (text : List ℕ) (a e i n : ℕ) → n ≡ up_to (code "}") (drop i (span text a e)) → (n ≡ 0 → ⊥) →
    Use (span text (a + i + 1) (a + i + n - 1)) ≡ use_after (drop i (span text a e))
use-seen text a e i n q z = rw (← q) (go n z (omega (arith, up_to-le (code "}") (drop i (span text a e)), length-drop i (span text a e))))
  where
    go : (n : ℕ) → (n ≡ 0 → ⊥) → n ≤ length (span text a e) - i → Use (span text (a + i + 1) (a + i + n - 1)) ≡ use_part (drop i (span text a e)) n
    go zero z h = absurd (z refl)
    go (suc n) z h =
        let k : i + suc n - 1 - (i + 1) ≡ n - 1 = omega arith in
        let b : a + (i + 1) ≡ a + i + 1 = omega arith in
        let c : a + (i + suc n - 1) ≡ a + i + suc n - 1 = omega arith in
        let f : span text (a + i + 1) (a + i + suc n - 1) ≡ span (span text a e) (i + 1) (i + suc n - 1) =
        rw (← b, ← c) (sym (span-span text a e (i + 1) (i + suc n - 1) (omega arith))) in
        let g : span (span text a e) (i + 1) (i + suc n - 1) ≡ take (n - 1) (drop 1 (drop i (span text a e))) =
        rw (k, drop-drop 1 i (span text a e)) in
        ap Use (f ∙ g)

-- the class of n bytes with its bracket that stands at a place
pub class-read : (text s c : List ℕ) (a e i n : ℕ) (x : Bool) → s ≡ span text a e → n ≡ up_to (code "]") (drop i s) → (n ≡ 0 → ⊥) →
    c ≡ span s i (i + n - 1) → good_class c ≡ x → (if x then Is (decode text (65536 + (a + i))) else Bad) ≡ class_after (drop i (span text a e))
class-read text s c a e i n x q u z d g =
    let v : n ≡ up_to (code "]") (drop i (span text a e)) = rw q at u in
    let k : i + n - 1 - i ≡ n - 1 = omega arith in
    let f : good_class (take (n - 1) (drop i (span text a e))) ≡ x = rw (← q, ← k, ← d) g in
    rw (← v, class-some (drop i (span text a e)) n z, f, class-seen text a e i n v z)

module _ (s : List ℕ) (i : ℕ) (h : i < length s) where
  pub class-at : get_or s i 0 ≡ code "[" → part_at s i ≡ class_after (drop (i + 1) s)
  unfolding part starting
  class-at e =
      let b = get_or s i 0 in
      part_at-in s i h
      ∙ rw (ne_eqb b (code "\\") (λ q. omega arith), ne_eqb b (code "?") (λ q. omega arith), ne_eqb b (code "*") (λ q. omega arith), eq-eqb _ _ e, part, starting)

  pub use-at : (eqb (get_or s i 0) (code "@") && begins (code "{") (drop (i + 1) s)) ≡ true → part_at s i ≡ use_after (drop (i + 1) s)
  unfolding part starting
  use-at e =
      let b = get_or s i 0 in
      let g : b ≡ code "@" = at (eqb b (code "@")) refl e in
      part_at-in s i h
      ∙ rw (
        ne_eqb b (code "\\") (λ q. omega arith),
        ne_eqb b (code "?") (λ q. omega arith),
        ne_eqb b (code "*") (λ q. omega arith),
        ne_eqb b (code "[") (λ q. omega arith),
        e,
        part,
        starting,
      )
    where
      at : (x : Bool) → eqb (get_or s i 0) (code "@") ≡ x → (x && begins (code "{") (drop (i + 1) s)) ≡ true → get_or s i 0 ≡ code "@"
      at true q f = eqb-true _ _ q
      at false q f = let z : ◌≡◌ {A = ℕ} 0 1 = cc in absurd (omega arith)

  module _ (text : List ℕ) (bytes : (k : ℕ) → get_or s k 0 < 256) where
    pub escape-read : get_or s i 0 ≡ code "\\" → Seen text (escape_of (drop (i + 1) s)) (part_at s i)
    unfolding part starting
    escape-read e =
        let f : part_at s i ≡ escaped (drop (i + 1) s) = part_at-in s i h ∙ rw (eq-eqb _ _ e, part, starting) in
        rw f (go (drop (i + 1) s) (λ k. rw (get_or-drop (i + 1) s k 0) (bytes (i + 1 + k))))
      where
        go : (l : List ℕ) → ((k : ℕ) → get_or l k 0 < 256) → Seen text (escape_of l) (escaped l)
        go [] k = record { is = refl; fits = omega arith }
        go (c ∷ l) k = record { is = ap Is (decode-byte text c (k 0)); fits = omega (arith, k 0) }

    pub star-read : get_or s i 0 ≡ code "*" → Seen text (read.Is (star_of (drop (i + 1) s))) (part_at s i)
    unfolding part starting
    star-read e =
        let b = get_or s i 0 in
        let f : part_at s i ≡ (if begins (code "*") (drop (i + 1) s) then start (Is StarStar) 1 else start (Is Star) 0).is =
        part_at-in s i h ∙ rw (ne_eqb b (code "\\") (λ q. omega arith), ne_eqb b (code "?") (λ q. omega arith), eq-eqb _ _ e, part, starting) in
        rw f (go (begins (code "*") (drop (i + 1) s)))
      where
        go : (x : Bool) → Seen text (read.Is (if x then piece.StarStar else piece.Star)) (if x then start (Is StarStar) 1 else start (Is Star) 0).is
        go true = record { is = ap Is (decode-stars text); fits = omega arith }
        go false = record { is = ap Is (decode-star text); fits = omega arith }

    pub single-read : (get_or s i 0 ≡ code "\\" → ⊥) → (get_or s i 0 ≡ code "*" → ⊥) → (get_or s i 0 ≡ code "[" → ⊥) →
        (eqb (get_or s i 0) (code "@") && begins (code "{") (drop (i + 1) s)) ≡ false → Seen text (single_of (get_or s i 0)) (part_at s i)
    unfolding part starting
    single-read k l m e =
        let b = get_or s i 0 in
        let f : part_at s i ≡ (if eqb b (code "?") then start (Is One) 0 else if lone b then start Bad 0 else start (Is (Byte b)) 0).is =
        part_at-in s i h ∙ rw (ne_eqb _ _ k, ne_eqb _ _ l, ne_eqb _ _ m, e, part, starting) in
        rw f (go (eqb b (code "?")) (lone b))
      where
        go : (x y : Bool) →
            Seen text (if x then read.Is piece.One else if y then read.Bad else read.Is (piece.Byte (get_or s i 0)))
            (if x then start (Is One) 0 else if y then start Bad 0 else start (Is (Byte (get_or s i 0))) 0).is
        go true y = record { is = ap Is (decode-one text); fits = omega arith }
        go false true = record { is = refl; fits = omega arith }
        go false false = record { is = ap Is (decode-byte text (get_or s i 0) (bytes i)); fits = omega (arith, bytes i) }

-- an alternation's body is a part of the text
pub among-read : (text s : List ℕ) (a e i j : ℕ) → s ≡ span text a e → j < length s → span text (a + i + 1) (a + j) ≡ span s (i + 1) j
among-read text s a e i j q h =
    let b : a + (i + 1) ≡ a + i + 1 = omega arith in
    let k : j ≤ length (span text a e) = omega (arith, ap length q) in
    rw (← b, q) (sym (span-span text a e (i + 1) j k))

-- ---- names

module _ (text vars name : List ℕ) where
  pub number-le : (n : ℕ) → number_of text vars n name ≤ n
  unfolding number_of
  number-le zero = omega arith
  number-le (suc w) = go (same (bytes_at text vars (2 * w)) name) (number-le w)
    where
      go : (x : Bool) → number_of text vars w name ≤ w → (elim x as (λ _. ℕ) [ true ↦ suc w | false ↦ number_of text vars w name ]) ≤ suc w
      go true h = omega arith
      go false h = omega arith

  -- the variable looked at has the name, or has not; none is left
  pub number-hit : (i : ℕ) → 0 < i → same (bytes_at text vars (2 * (i - 1))) name ≡ true → number_of text vars i name ≡ i
  unfolding number_of
  number-hit zero h e = absurd (not-suc-le-zero h)
  number-hit (suc w) h e = let k : suc w - 1 ≡ w = omega arith in rw (rw k at e, number_of)

  pub number-miss : (i : ℕ) → 0 < i → same (bytes_at text vars (2 * (i - 1))) name ≡ false → number_of text vars i name ≡ number_of text vars (i - 1) name
  unfolding number_of
  number-miss zero h e = absurd (not-suc-le-zero h)
  number-miss (suc w) h e = let k : suc w - 1 ≡ w = omega arith in rw (k, rw k at e, number_of)

  pub number-end : (i : ℕ) → i ≤ 0 → number_of text vars i name ≡ 0
  unfolding number_of
  number-end zero h = refl
  number-end (suc w) h = absurd (not-suc-le-zero h)

  -- a name is set where it has a number
  pub number-set : (n : ℕ) → is_set (variables text vars n) name ≡ not (eqb (number_of text vars n name) 0)
  unfolding number_of variables is_set some
  number-set zero = refl
  number-set (suc w) = go (same (bytes_at text vars (2 * w)) name) (number-set w)
    where
      go : (x : Bool) → some (λ (v : Variable). same v.name name) (variables text vars w) ≡ not (eqb (number_of text vars w name) 0) →
          (x || some (λ (v : Variable). same v.name name) (variables text vars w)) ≡
          not (eqb (elim x as (λ _. ℕ) [ true ↦ suc w | false ↦ number_of text vars w name ]) 0)
      go true h = sym (ap not (ne_eqb (suc w) 0 (λ q. omega arith)))
      go false h = h
