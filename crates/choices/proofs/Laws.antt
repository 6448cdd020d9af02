-- Where the first choices of a pattern may not begin the path, no expansion matches it.
use mathlib.Core.Path.{◌≡◌, refl, sym, ap, ap₂, ◌∙◌}
use mathlib.Core.List.{List, [], ◌∷◌, ◌++◌, map, map-append, map-map}
use mathlib.Core.Bool.{Bool, true, false, ◌&&◌, ◌||◌, false≢true}
use Prim.Native.Nat.{ℕ, zero, suc}
use native.Mathlib.Omega.{arith}
use lib.ListN.{length, drop}
use Rattle.scan.specs.Bytes.{every, some, same}
use Rattle.scan.proofs.Laws.{some-append}
use Rattle.scan.proofs.Bools.{neither_left, neither_right}
use Rattle.pattern.specs.Pieces.{Piece, Byte, Is, Use, Bad, parts}
use Rattle.pattern.specs.Expansions.{Variable, across, listing, of_parts, one_of, of_name, of_item, of_items, expansions, is_literal}
use Rattle.pattern.specs.Items.{Item, Single, Among}
use Rattle.pattern.specs.Places.{item_at, item_end}
use Rattle.pattern.specs.Literals.{special}
use Rattle.pattern.proofs.Literals.{parts-ordinary}
use Rattle.pattern.proofs.Laws.{items_at}
use Rattle.front.specs.Front.{beginning, front_after, slash_after, some_after, exact_after}
use Rattle.front.proofs.Laws.{across-one, kept_after, kept-front, plain-expansions, each, each-literal, every-literal}
use Rattle.choices.specs.Choices.{values_in, leads, or_follows, leads_on, some_leads, opens_item, opens}

-- ---- each of some expansions before each of others

-- a piece before each of the first
across-piece : (p : Piece) (xs ts : List (List Piece)) → across (map (λ x. p ∷ x) xs) ts ≡ map (λ x. p ∷ x) (across xs ts)
unfolding across
across-piece p xs [] = refl
across-piece p xs (t ∷ ts) =
    ap₂ (λ (a b : List (List Piece)). a ++ b)
    (map-map (λ x. x ++ t) (λ x. p ∷ x) xs ∙ sym (map-map (λ x. p ∷ x) (λ x. x ++ t) xs))
    (across-piece p xs ts)
    ∙ sym (map-append (λ x. p ∷ x) (map (λ x. x ++ t) xs) (across xs ts))

across-empty : (ts : List (List Piece)) → across ([] ∷ []) ts ≡ ts
unfolding across
across-empty [] = refl
across-empty (t ∷ ts) = ap (λ (l : List (List Piece)). t ∷ l) (across-empty ts)

module _ (p : List Piece → Bool) where
  none-across : (ts : List (List Piece)) → some p (across [] ts) ≡ false
  unfolding across some
  none-across [] = refl
  none-across (t ∷ ts) = none-across ts

  -- none of the one kind, and none of the other
  none-either : (xs ys ts : List (List Piece)) → some p (across xs ts) ≡ false → some p (across ys ts) ≡ false → some p (across (xs ++ ys) ts) ≡ false
  unfolding across
  none-either xs ys [] e f = e
  none-either xs ys (t ∷ ts) e f =
      let xt = some p (map (λ x. x ++ t) xs) in
      let yt = some p (map (λ x. x ++ t) ys) in
      let xts = some p (across xs ts) in
      let yts = some p (across ys ts) in
      let g : (xt || xts) ≡ false = sym (some-append p (map (λ x. x ++ t) xs) (across xs ts)) ∙ e in
      let h : (yt || yts) ≡ false = sym (some-append p (map (λ x. x ++ t) ys) (across ys ts)) ∙ f in
      some-append p (map (λ x. x ++ t) (xs ++ ys)) (across (xs ++ ys) ts)
      ∙ ap₂ ◌||◌
      (ap (some p) (map-append (λ x. x ++ t) xs ys) ∙ some-append p (map (λ x. x ++ t) xs) (map (λ x. x ++ t) ys) ∙ ap₂ ◌||◌ (neither_left xt xts g) (neither_left yt yts h))
      (none-either xs ys ts (neither_right xt xts g) (neither_right yt yts h))

-- ---- a value and what follows it

-- the expansions of a value before others; g gives those of a name
module _ (g : List ℕ → List (List Piece)) (ts : List (List Piece)) where
  abbrev value_then : List ℕ → List (List Piece)
  value_then v = across (of_parts listing g (parts 0 v)) ts

  plain_value : (b : ℕ) (s : List ℕ) → special b ≡ false → value_then (b ∷ s) ≡ map (λ x. Byte b ∷ x) (value_then s)
  unfolding of_parts
  plain_value b s e =
      rw (parts-ordinary b s e)
      (ap (λ (xs : List (List Piece)). across xs ts) (across-one (Byte b) (of_parts listing g (parts 0 s))) ∙ across-piece (Byte b) (of_parts listing g (parts 0 s)) ts)

  value-end : value_then [] ≡ ts
  unfolding of_parts parts
  value-end = across-empty ts

-- ---- where none leads on, none matches

module _ (keep : List Piece → Bool) (literal : (b : ℕ) (x : List Piece) → keep (Byte b ∷ x) ≡ keep x) where
  -- what is left behind a front does not go on
  leads-none : (F : List ℕ → List (List Piece)) → ((b : ℕ) (s : List ℕ) → special b ≡ false → F (b ∷ s) ≡ map (λ x. Byte b ∷ x) (F s)) →
      (goes : Bool → List ℕ → List ℕ → Bool) → ((slash : Bool) (s path : List ℕ) → goes slash s path ≡ false → kept_after keep slash (F s) path ≡ false) →
      (s : List ℕ) (slash : Bool) (path : List ℕ) → leads goes s slash path ≡ false → kept_after keep slash (F s) path ≡ false
  unfolding leads
  leads-none F plain goes none s slash path h = kept-front keep literal F plain s path slash ∙ go (beginning f path) h
    where
      f : List ℕ
      f = front_after slash s

      go : (x : Bool) → (x && goes (slash_after slash f) (drop (length f) s) (drop (length f) path)) ≡ false →
          (x && kept_after keep (slash_after slash f) (F (drop (length f) s)) (drop (length f) path)) ≡ false
      go false k = refl
      go true k = none (slash_after slash f) (drop (length f) s) (drop (length f) path) k

  -- a choice before what matches nothing where it does not go on
  module _ (vs : List Variable) (rest : List ℕ) (goes : Bool → List ℕ → Bool)
      (none : (slash : Bool) (path : List ℕ) → goes slash path ≡ false → kept_after keep slash (expansions vs rest) path ≡ false) (slash : Bool) (path : List ℕ) where
    abbrev None : List (List Piece) → Type 0
    None xs = kept_after keep slash (across xs (expansions vs rest)) path ≡ false

    value_none : (g : List ℕ → List (List Piece)) (v : List ℕ) → leads_on goes slash path v ≡ false → None (of_parts listing g (parts 0 v))
    value_none g v h = leads-none (value_then g ts) (plain_value g ts) (or_follows goes) after v slash path h
      where
        ts : List (List Piece)
        ts = expansions vs rest

        after : (slash : Bool) (s path : List ℕ) → or_follows goes slash s path ≡ false → kept_after keep slash (value_then g ts s) path ≡ false
        after slash [] path k = rw (value-end g ts) (none slash path k)
        after slash (b ∷ s) path k = absurd (false≢true (sym k))

    values-none : (g : List ℕ → List (List Piece)) (ss : List (List ℕ)) → some_leads goes slash path ss ≡ false → None (one_of listing g ss)
    unfolding some one_of
    values-none g [] h = none-across _ (expansions vs rest)
    values-none g (s ∷ ss) h =
        none-either _ (of_parts listing g (parts 0 s)) (one_of listing g ss) (expansions vs rest)
        (value_none g s (neither_left (leads_on goes slash path s) (some_leads goes slash path ss) h))
        (values-none g ss (neither_right (leads_on goes slash path s) (some_leads goes slash path ss) h))

    name-none : (ws : List Variable) (n : List ℕ) → some_leads goes slash path (values_in ws n) ≡ false → None (of_name listing ws n)
    unfolding values_in of_name
    name-none [] n h = none-across _ (expansions vs rest)
    name-none (w ∷ ws) n h = go (same w.name n) (name-none ws n) h
      where
        go : (x : Bool) → (some_leads goes slash path (values_in ws n) ≡ false → None (of_name listing ws n)) →
            some_leads goes slash path (elim x as (λ _. List (List ℕ)) [ true ↦ w.values | false ↦ values_in ws n ]) ≡ false →
            None (elim x as (λ _. List (List Piece)) [ true ↦ one_of listing (of_name listing ws) w.values | false ↦ of_name listing ws n ])
        go true later k = values-none (of_name listing ws) w.values k
        go false later k = later k

    item-none : (i : Item) → opens_item goes vs slash path i ≡ false → None (of_item listing (of_name listing vs) i)
    item-none (Single (Is p)) h = absurd (false≢true (sym h))
    item-none (Single (Use n)) h = name-none vs n h
    item-none (Single Bad) h = absurd (false≢true (sym h))
    item-none (Among ss) h = values-none (of_name listing vs) ss h

  -- the first choices of a pattern
  kept-none : (depth : ℕ) (vs : List Variable) (slash : Bool) (s path : List ℕ) → opens depth vs slash s path ≡ false → kept_after keep slash (expansions vs s) path ≡ false
  unfolding opens expansions of_items
  kept-none zero vs slash s path h = absurd (false≢true (sym h))
  kept-none (suc k) vs slash [] path h = absurd (false≢true (sym h))
  kept-none (suc k) vs slash (b ∷ s) path h =
      let rest = drop (item_end (b ∷ s) 0) (b ∷ s) in
      ap (λ (is : List Item). kept_after keep slash (of_items listing (of_name listing vs) is) path) (items_at (b ∷ s) 0 (item_end (b ∷ s) 0) (omega arith) refl)
      ∙ item-none vs rest (leads (opens k vs) rest) (leads-none (expansions vs) (plain-expansions vs) (opens k vs) (kept-none k vs) rest) slash path (item_at (b ∷ s) 0) h

module _ (depth : ℕ) (vs : List Variable) (slash : Bool) (s path : List ℕ) (h : opens depth vs slash s path ≡ false) where
  pub opens-none : some_after slash vs s path ≡ false
  unfolding some_after
  opens-none = kept-none each each-literal depth vs slash s path h

  pub opens-none-exactly : exact_after slash vs s path ≡ false
  unfolding exact_after
  opens-none-exactly = kept-none (every is_literal) every-literal depth vs slash s path h
