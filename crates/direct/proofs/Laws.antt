-- What is told of a pattern is so: a miss is matched by no expansion, and a hit is a pattern of one expansion, which matches.
use Rattle.std.specs.Prelude.{Option, Some, None, if◌then◌else◌}
use Prim.Native.Nat.{ℕ, zero, suc, ◌-◌, ◌≤◌, ◌<◌}
use Prim.Native.Char.{code}
use mathlib.Core.Path.{◌≡◌, refl, sym, ap, ap₂, subst, ◌∙◌}
use mathlib.Core.List.{List, [], ◌∷◌, ◌++◌, map}
use mathlib.Core.Bool.{Bool, true, false, not, ◌&&◌, ◌||◌, false≢true, and-false, or-false}
use native.Mathlib.Omega.{arith}
use lib.ListN.{length, take, drop, length-drop, length-map}
use lib.Dec.{eqb, ltb}
use borrow.Author.Tests.{eq-eqb, ne_eqb, eqb-true, eqb-false, ltb-false, le-ltb, not-true}
use Rattle.scan.specs.Bytes.{begins, every, some, is_empty}
use Rattle.scan.proofs.Bools.{iff, and_left, and_right}
use Rattle.class.specs.Class.{in_class, good_class}
use Rattle.pattern.specs.Pieces.{Piece, Byte, One as One_byte, Star, StarStar, Class, Is, starting, part, extra, up_to, class_part}
use Rattle.pattern.specs.Items.{Item, Single, item, reach, items, good_item, names_item, pattern_form, pattern_names}
use Rattle.pattern.specs.Literals.{special, ordinary}
use Rattle.pattern.specs.Expansions.{Variable, listing, counting, of_items, of_name, expansions, count, longest, is_set, begins_slash, is_slash, is_literal, joined_after}
use Rattle.pattern.specs.Faults.{too_many, rooted, pattern_fault}
use Rattle.pattern.proofs.Literals.{items-ordinary}
use Rattle.pattern.proofs.Laws.{items-skip}
use Rattle.matcher.specs.Match.{accepts, matches, no_slash, some_up_to}
use Rattle.matcher.specs.Walk.{repeats_of, takes_of}
use Rattle.matcher.proofs.Laws.{some-intro, some-elim, matches-nil, matches-one}
use Rattle.front.specs.Front.{plain_after, front_after, slash_after, some_after, exact_after}
use Rattle.front.proofs.Laws.{across-one, eqb-turn}
use Rattle.direct.proofs.Turns.{none-some, some-eq, one-within}
use Rattle.direct.specs.declared.One.{One}
use Rattle.direct.specs.declared.Outcome.{Outcome}
use Rattle.direct.specs.declared.Outcome.TheVariants as outcome
use Rattle.direct.specs.Direct.{one, class_one, one_at, simple, fitting, star_of, rest_of, step_of, outcome_of}

-- ---- items that are pieces

abbrev pub alone : Piece → Item
alone p = Single (Is p)

-- ---- a piece of one byte

-- a pattern begins with a plain literal
abbrev pub plain_first : (slash : Bool) → List ℕ → Bool
plain_first slash [] = false
plain_first slash (c ∷ s) = plain_after slash c

record OnePiece (slash : Bool) (b : ℕ) (s : List ℕ) (o : One) : Type 0 where
  piece : Piece
  item : items 0 s ≡ alone piece ∷ items 0 (drop o.width s)
  single : repeats_of piece ≡ false
  takes : takes_of piece b ≡ o.takes
  kept : (slash && is_slash piece) ≡ false
  slashed : is_slash piece ≡ begins (code "/") s
  filled : is_empty s ≡ false
  literal : plain_first slash s ≡ false → is_literal piece ≡ false

items-any : (s : List ℕ) → items 0 (code "?" ∷ s) ≡ alone One_byte ∷ items 0 s
unfolding items item reach part extra starting
items-any s = refl

items-class : (s : List ℕ) → items 0 (code "[" ∷ s) ≡ Single (class_part s (up_to (code "]") s)) ∷ items (up_to (code "]") s) s
unfolding items item reach part extra starting
items-class s = refl

items-star : (s : List ℕ) → begins (code "*") s ≡ false → items 0 (code "*" ∷ s) ≡ alone Star ∷ items 0 s
unfolding items item reach part extra starting
items-star s e = rw (e, part, extra, starting)

items-stars : (s : List ℕ) → items 0 (code "*" ∷ code "*" ∷ s) ≡ alone StarStar ∷ items 0 s
unfolding items item reach part extra starting
items-stars s = refl

class-piece : (slash : Bool) (b : ℕ) (s : List ℕ) (n : ℕ) → n ≡ up_to (code "]") s → (o : One) → class_one b s n ≡ Some o → OnePiece slash b (code "[" ∷ s) o
class-piece slash b s zero e o h = absurd (none-some h)
class-piece slash b s (suc n) e o h = go (good_class (take n s)) refl h
  where
    go : (g : Bool) → good_class (take n s) ≡ g → (if g then one (suc (suc n)) (in_class (take n s) b) else None) ≡ Some o → OnePiece slash b (code "[" ∷ s) o
    go false q z = absurd (none-some z)
    go true q z =
        subst (OnePiece slash b (code "[" ∷ s)) (some-eq z)
        (record {
          piece = Class (take n s);
          item = items-class s ∙ rw (← e, q, items-skip (suc n) s);
          single = refl;
          takes = refl;
          kept = and-false slash;
          slashed = refl;
          filled = refl;
          literal = λ _. refl;
        })

one_piece : (slash : Bool) (b : ℕ) (s : List ℕ) (o : One) → one_at slash b s ≡ Some o → OnePiece slash b s o
unfolding one_at
one_piece slash b [] o h = absurd (none-some h)
one_piece slash b (c ∷ s) o h = go (eqb c (code "?")) (eqb c (code "[")) (plain_after slash c) refl refl refl h
  where
    by : (x y z : Bool) → Option One
    by x y z = if x then one 1 (no_slash b) else if y then class_one b s (up_to (code "]") s) else if z then one 1 (eqb b c) else None

    go : (x y z : Bool) → eqb c (code "?") ≡ x → eqb c (code "[") ≡ y → plain_after slash c ≡ z → by x y z ≡ Some o → OnePiece slash b (c ∷ s) o
    go true y z p q r h =
        rw (eqb-true c (code "?") p)
        (subst (OnePiece slash b (code "?" ∷ s)) (some-eq h)
        (record { piece = One_byte; item = items-any s; single = refl; takes = refl; kept = and-false slash; slashed = refl; filled = refl; literal = λ _. refl }))
    go false true z p q r h = rw (eqb-true c (code "[") q) (class-piece slash b s (up_to (code "]") s) refl o h)
    go false false true p q r h =
        subst (OnePiece slash b (c ∷ s)) (some-eq h)
        (record {
          piece = Byte c;
          item = items-ordinary c s (not-true (special c) (and_left (ordinary c) (not (slash && eqb c (code "/"))) r));
          single = refl;
          takes = refl;
          kept = not-true (slash && eqb c (code "/")) (and_right (ordinary c) (not (slash && eqb c (code "/"))) r);
          slashed = refl;
          filled = refl;
          literal = λ q. absurd (false≢true (sym q ∙ r));
        })
    go false false false p q r h = absurd (none-some h)

-- ---- a tail of literals and ?

abbrev piece_of : ℕ → Piece
piece_of b = if eqb b (code "?") then One_byte else Byte b

record Tail (slash : Bool) (t : List ℕ) : Type 0 where
  items-are : items 0 t ≡ map alone (map piece_of t)
  joined : joined_after slash (map piece_of t) ≡ map piece_of t

tail-is : (slash : Bool) (t : List ℕ) → simple slash t ≡ true → Tail slash t
unfolding simple items joined_after
tail-is slash [] e = record { items-are = refl; joined = refl }
tail-is slash (b ∷ t) e =
    go (eqb b (code "?")) (plain_after slash b) refl refl (and_left (plain_after slash b || eqb b (code "?")) (simple (eqb b (code "/")) t) e)
    (tail-is (eqb b (code "/")) t (and_right (plain_after slash b || eqb b (code "?")) (simple (eqb b (code "/")) t) e))
  where
    go : (x z : Bool) → eqb b (code "?") ≡ x → plain_after slash b ≡ z → (z || x) ≡ true → Tail (eqb b (code "/")) t → Tail slash (b ∷ t)
    go true z p r h later =
        let c : b ≡ code "?" = eqb-true b (code "?") p in
        let j : joined_after false (map piece_of t) ≡ map piece_of t = rw c at later.joined in
        rw c
        (record {
          items-are = items-any t ∙ ap (λ (l : List Item). alone One_byte ∷ l) later.items-are;
          joined = rw (and-false slash, j);
        })
    go false false p r h later = absurd (false≢true h)
    go false true p r h later =
        let k : (slash && eqb b (code "/")) ≡ false = not-true (slash && eqb b (code "/")) (and_right (ordinary b) (not (slash && eqb b (code "/"))) r) in
        record {
          items-are =
              items-ordinary b t (not-true (special b) (and_left (ordinary b) (not (slash && eqb b (code "/"))) r))
              ∙ rw p (ap (λ (l : List Item). alone (Byte b) ∷ l) later.items-are);
          joined = rw (p, k, later.joined);
        }

matches-none : (p : List ℕ) → matches [] p ≡ is_empty p
unfolding matches
matches-none p = refl

-- it matches the bytes that it fits, one each
tail-matches : (t p : List ℕ) → matches (map piece_of t) p ≡ (eqb (length t) (length p) && fitting t p)
unfolding fitting
tail-matches [] [] = matches-none []
tail-matches [] (c ∷ p) = rw (matches-none (c ∷ p), ne_eqb 0 (suc (length p)) (λ q. omega arith))
tail-matches (b ∷ t) p = go (eqb b (code "?")) refl p (tail-matches t)
  where
    eqb-suc : (m n : ℕ) → eqb (suc m) (suc n) ≡ eqb m n
    eqb-suc m n = step (eqb m n) refl
      where
        step : (x : Bool) → eqb m n ≡ x → eqb (suc m) (suc n) ≡ x
        step true e = eq-eqb (suc m) (suc n) (ap suc (eqb-true m n e))
        step false e = ne_eqb (suc m) (suc n) (λ q. eqb-false m n e (omega arith))

    swap : (a x y : Bool) → (a && (x && y)) ≡ (x && (a && y))
    swap a true y = refl
    swap true false y = refl
    swap false false y = refl

    go : (x : Bool) → eqb b (code "?") ≡ x → (p : List ℕ) → ((p : List ℕ) → matches (map piece_of t) p ≡ (eqb (length t) (length p) && fitting t p)) →
        matches (piece_of b ∷ map piece_of t) p ≡ (eqb (suc (length t)) (length p) && fitting (b ∷ t) p)
    go true e [] later = rw (e, matches-nil One_byte (map piece_of t), ne_eqb (suc (length t)) 0 (λ q. omega arith))
    go false e [] later = rw (e, matches-nil (Byte b) (map piece_of t), ne_eqb (suc (length t)) 0 (λ q. omega arith))
    go true e (c ∷ p) later =
        rw (e, matches-one One_byte (map piece_of t) c p refl, later p, eqb-suc (length t) (length p)) (swap (no_slash c) (eqb (length t) (length p)) (fitting t p))
    go false e (c ∷ p) later =
        rw (e, matches-one (Byte b) (map piece_of t) c p refl, later p, eqb-suc (length t) (length p), eqb-turn c b) (swap (eqb b c) (eqb (length t) (length p)) (fitting t p))

-- ---- a star before a tail

abbrev star_piece : Bool → Piece
star_piece any = if any then StarStar else Star

star-accepts : (any : Bool) (s : List ℕ) → (any || every no_slash s) ≡ accepts (star_piece any) s
star-accepts true s = refl
star-accepts false s = refl

-- only as many bytes as the tail has are left to it
module _ (any : Bool) (t path : List ℕ) where
  abbrev m : ℕ
  m = length path - length t

  abbrev by_star : Bool
  by_star = if ltb (length path) (length t) then false else fitting t (drop m path) && (any || every no_slash (take m path))

  star-takes : matches (star_piece any ∷ map piece_of t) path ≡ true → by_star ≡ true
  unfolding matches
  star-takes e =
      let k = some-elim (λ k. accepts (star_piece any) (take k path) && matches (map piece_of t) (drop k path)) (length path) e in
      let a : accepts (star_piece any) (take k.0 path) ≡ true = and_left _ _ k.2 in
      let f : (eqb (length t) (length (drop k.0 path)) && fitting t (drop k.0 path)) ≡ true =
      sym (tail-matches t (drop k.0 path)) ∙ and_right (accepts (star_piece any) (take k.0 path)) _ k.2 in
      let n : length t ≡ length (drop k.0 path) = eqb-true (length t) _ (and_left _ (fitting t (drop k.0 path)) f) in
      let l : k.0 ≡ m = omega (arith, length-drop k.0 path, k.1) in
      let h : length t ≤ length path = omega (arith, length-drop k.0 path, k.1) in
      let g : fitting t (drop k.0 path) ≡ true = and_right (eqb (length t) (length (drop k.0 path))) (fitting t (drop k.0 path)) f in
      rw (le-ltb (length path) (length t) h, ← l, g, star-accepts any (take k.0 path), a)

  star-taken : by_star ≡ true → matches (star_piece any ∷ map piece_of t) path ≡ true
  unfolding matches
  star-taken e = go (ltb (length path) (length t)) refl e
    where
      go : (x : Bool) → ltb (length path) (length t) ≡ x → (if x then false else fitting t (drop m path) && (any || every no_slash (take m path))) ≡ true →
          some_up_to (λ k. accepts (star_piece any) (take k path) && matches (map piece_of t) (drop k path)) (length path) ≡ true
      go true p q = absurd (false≢true q)
      go false p q =
          let h : length t ≤ length path = ltb-false (length path) (length t) p in
          let n : length t ≡ length (drop m path) = omega (arith, length-drop m path) in
          let a : accepts (star_piece any) (take m path) ≡ true = sym (star-accepts any (take m path)) ∙ and_right (fitting t (drop m path)) _ q in
          some-intro (λ k. accepts (star_piece any) (take k path) && matches (map piece_of t) (drop k path)) (length path) m (omega arith)
          (rw (a, tail-matches t (drop m path), eq-eqb (length t) (length (drop m path)) n) (and_left (fitting t (drop m path)) _ q))

  star-matches : matches (star_piece any ∷ map piece_of t) path ≡ by_star
  star-matches = iff _ _ star-takes star-taken

  -- what is told of it
  record Starred (hit : Bool) : Type 0 where
    tail : simple false t ≡ true
    whole : matches (star_piece any ∷ map piece_of t) path ≡ hit

  star-miss : star_of any t path ≡ outcome.Miss → Starred false
  unfolding star_of
  star-miss e = go (simple false t) (ltb (length path) (length t)) (fitting t (drop m path) && (any || every no_slash (take m path))) refl star-matches e
    where
      go : (x y z : Bool) → simple false t ≡ x → matches (star_piece any ∷ map piece_of t) path ≡ (if y then false else z) →
          (if not x then outcome.Open else if y then outcome.Miss else if z then outcome.Hit else outcome.Miss) ≡ outcome.Miss → Starred false
      go true true z p q r = record { tail = p; whole = q }
      go true false true p q r = absurd (let n : ◌≡◌ {A = ℕ} 0 1 = cc in omega arith)
      go true false false p q r = record { tail = p; whole = q }
      go false y z p q r = absurd (let n : ◌≡◌ {A = ℕ} 0 1 = cc in omega arith)

  star-hit : star_of any t path ≡ outcome.Hit → Starred true
  unfolding star_of
  star-hit e = go (simple false t) (ltb (length path) (length t)) (fitting t (drop m path) && (any || every no_slash (take m path))) refl star-matches e
    where
      go : (x y z : Bool) → simple false t ≡ x → matches (star_piece any ∷ map piece_of t) path ≡ (if y then false else z) →
          (if not x then outcome.Open else if y then outcome.Miss else if z then outcome.Hit else outcome.Miss) ≡ outcome.Hit → Starred true
      go true true z p q r = absurd (let n : ◌≡◌ {A = ℕ} 0 1 = cc in omega arith)
      go true false true p q r = record { tail = p; whole = q }
      go true false false p q r = absurd (let n : ◌≡◌ {A = ℕ} 0 1 = cc in omega arith)
      go false y z p q r = absurd (let n : ◌≡◌ {A = ℕ} 0 1 = cc in omega arith)

-- ---- items that are pieces are one expansion

straight-listing : (f : List ℕ → List (List Piece)) (ps : List Piece) → of_items listing f (map alone ps) ≡ ps ∷ []
unfolding of_items
straight-listing f [] = refl
straight-listing f (p ∷ ps) = rw (straight-listing f ps) (across-one p (ps ∷ []))

module _ (vs : List Variable) (s : List ℕ) (ps : List Piece) (e : items 0 s ≡ map alone ps) where
  pub straight : expansions vs s ≡ ps ∷ []
  unfolding expansions
  straight = rw e (straight-listing (of_name listing vs) ps)

  pub straight-some : (slash : Bool) (path : List ℕ) → some_after slash vs s path ≡ matches (joined_after slash ps) path
  unfolding some_after some
  straight-some slash path = rw straight (or-false (matches (joined_after slash ps) path))

  pub straight-exactly : (slash : Bool) (path : List ℕ) → exact_after slash vs s path ≡ (every is_literal ps && matches (joined_after slash ps) path)
  unfolding exact_after some
  straight-exactly slash path = rw straight (or-false (every is_literal ps && matches (joined_after slash ps) path))

-- a star and a simple tail
module _ (any : Bool) (t : List ℕ) (h : simple false t ≡ true) where
  starred : (s : List ℕ) → items 0 s ≡ alone (star_piece any) ∷ items 0 t → items 0 s ≡ map alone (star_piece any ∷ map piece_of t)
  starred s e = e ∙ ap (λ (l : List Item). alone (star_piece any) ∷ l) (tail-is false t h).items-are

  star-joined : (slash : Bool) → joined_after slash (star_piece any ∷ map piece_of t) ≡ star_piece any ∷ map piece_of t
  unfolding joined_after
  star-joined slash = go any
    where
      go : (any : Bool) → joined_after slash (star_piece any ∷ map piece_of t) ≡ star_piece any ∷ map piece_of t
      go true = rw (and-false slash, (tail-is false t h).joined)
      go false = rw (and-false slash, (tail-is false t h).joined)

-- what stands behind a star, or two
abbrev behind_star : Bool → List ℕ → List ℕ
behind_star any s = if any then drop 1 s else s

star-items : (s : List ℕ) (any : Bool) → begins (code "*") s ≡ any → items 0 (code "*" ∷ s) ≡ alone (star_piece any) ∷ items 0 (behind_star any s)
star-items s false e = items-star s e
star-items [] true e = absurd (false≢true e)
star-items (c ∷ s) true e = rw (eqb-true c (code "*") e) (items-stars s)

behind-le : (any : Bool) (s : List ℕ) → length (behind_star any s) ≤ length s
behind-le true s = omega (arith, length-drop 1 s)
behind-le false s = omega arith

-- ---- what is told

-- a pattern of one expansion, which matches the path; where it begins with no plain literal, it is literals only where it is empty
pub record Hits (slash : Bool) (s path : List ℕ) : Type 0 where
  pub pieces : List Piece
  pub are : items 0 s ≡ map alone pieces
  pub short : length pieces ≤ length s
  pub whole : matches (joined_after slash pieces) path ≡ true
  pub literal : plain_first slash s ≡ false → every is_literal pieces ≡ is_empty s

module _ (slash : Bool) (path : List ℕ) where
  abbrev Unmatched : List ℕ → Type 0
  Unmatched s = (vs : List Variable) → some_after slash vs s path ≡ false

  star-none : (any : Bool) (t s : List ℕ) → items 0 s ≡ alone (star_piece any) ∷ items 0 t → star_of any t path ≡ outcome.Miss → Unmatched s
  star-none any t s e o vs =
      let r = star-miss any t path o in
      straight-some vs s (star_piece any ∷ map piece_of t) (starred any t r.tail s e) slash path ∙ rw (star-joined any t r.tail slash) r.whole

  star-hits : (any : Bool) (t : List ℕ) (c : ℕ) (s : List ℕ) → length t ≤ length s → items 0 (c ∷ s) ≡ alone (star_piece any) ∷ items 0 t → star_of any t path ≡ outcome.Hit → Hits slash (c ∷ s) path
  unfolding every
  star-hits any t c s l e o =
      let r = star-hit any t path o in
      record {
        pieces = star_piece any ∷ map piece_of t;
        are = starred any t r.tail (c ∷ s) e;
        short = omega (arith, length-map t piece_of);
        whole = rw (star-joined any t r.tail slash) r.whole;
        literal = λ _. never any;
      }
    where
      never : (any : Bool) → (is_literal (star_piece any) && every is_literal (map piece_of t)) ≡ false
      never true = refl
      never false = refl

  -- what is left of a pattern
  module _ (s : List ℕ) where
    starry : (o : Outcome) → rest_of (code "*" ∷ s) path ≡ o → star_of (begins (code "*") s) (behind_star (begins (code "*") s) s) path ≡ o
    unfolding rest_of
    starry o e = go (begins (code "*") s) e
      where
        go : (any : Bool) → (if any then star_of true (drop 1 s) path else star_of false s path) ≡ o → star_of any (behind_star any s) path ≡ o
        go true e = e
        go false e = e

  rest-miss : (s : List ℕ) → rest_of s path ≡ outcome.Miss → Unmatched s
  unfolding rest_of items matches joined_after
  rest-miss [] o vs = straight-some vs [] [] refl slash path ∙ go path o
    where
      go : (p : List ℕ) → (if is_empty p then outcome.Hit else outcome.Miss) ≡ outcome.Miss → is_empty p ≡ false
      go [] o = absurd (let n : ◌≡◌ {A = ℕ} 0 1 = cc in omega arith)
      go (b ∷ p) o = refl
  rest-miss (c ∷ s) o vs = go (eqb c (code "*")) refl o
    where
      go : (x : Bool) → eqb c (code "*") ≡ x → (if x then (if begins (code "*") s then star_of true (drop 1 s) path else star_of false s path) else outcome.Open) ≡ outcome.Miss →
          some_after slash vs (c ∷ s) path ≡ false
      go true p o = rw (eqb-true c (code "*") p) (star-none (begins (code "*") s) (behind_star (begins (code "*") s) s) (code "*" ∷ s) (star-items s (begins (code "*") s) refl) (starry s outcome.Miss o) vs)
      go false p o = absurd (let n : ◌≡◌ {A = ℕ} 0 1 = cc in omega arith)

  rest-hit : (s : List ℕ) → rest_of s path ≡ outcome.Hit → Hits slash s path
  unfolding rest_of items matches joined_after every
  rest-hit [] o = record { pieces = []; are = refl; short = omega arith; whole = go path o; literal = λ _. refl }
    where
      go : (p : List ℕ) → (if is_empty p then outcome.Hit else outcome.Miss) ≡ outcome.Hit → is_empty p ≡ true
      go [] o = refl
      go (b ∷ p) o = absurd (let n : ◌≡◌ {A = ℕ} 0 1 = cc in omega arith)
  rest-hit (c ∷ s) o = go (eqb c (code "*")) refl o
    where
      go : (x : Bool) → eqb c (code "*") ≡ x → (if x then (if begins (code "*") s then star_of true (drop 1 s) path else star_of false s path) else outcome.Open) ≡ outcome.Hit → Hits slash (c ∷ s) path
      go true p o =
          rw (eqb-true c (code "*") p)
          (star-hits (begins (code "*") s) (behind_star (begins (code "*") s) s) (code "*") s (behind-le (begins (code "*") s) s) (star-items s (begins (code "*") s) refl) (starry s outcome.Hit o))
      go false p o = absurd (let n : ◌≡◌ {A = ℕ} 0 1 = cc in omega arith)

-- a piece of one byte in front
module _ (slash : Bool) (b : ℕ) (s path : List ℕ) (o : One) (r : OnePiece slash b s o) where
  one-front : (ps : List Piece) → matches (joined_after slash (r.piece ∷ ps)) (b ∷ path) ≡ (o.takes && matches (joined_after (begins (code "/") s) ps) path)
  unfolding joined_after
  one-front ps =
      rw (r.kept, r.slashed, ← r.takes)
      (matches-one r.piece (joined_after (begins (code "/") s) ps) b path r.single)

  one_each : (xs : List (List Piece)) → some (λ x. matches (joined_after slash x) (b ∷ path)) (map (λ x. r.piece ∷ x) xs)
      ≡ (o.takes && some (λ x. matches (joined_after (begins (code "/") s) x) path) xs)
  unfolding some
  one_each [] = sym (and-false o.takes)
  one_each (x ∷ xs) = ap₂ ◌||◌ (one-front x) (one_each xs) ∙ go o.takes (matches (joined_after (begins (code "/") s) x) path) (some (λ x. matches (joined_after (begins (code "/") s) x) path) xs)
    where
      go : (t a l : Bool) → ((t && a) || (t && l)) ≡ (t && (a || l))
      go true a l = refl
      go false a l = refl

  one-some : (vs : List Variable) → some_after slash vs s (b ∷ path) ≡ (o.takes && some_after (begins (code "/") s) vs (drop o.width s) path)
  unfolding some_after expansions of_items
  one-some vs = rw (r.item, across-one r.piece (of_items listing (of_name listing vs) (items 0 (drop o.width s)))) (one_each _)

  one-hits : o.takes ≡ true → 0 < o.width → o.width ≤ length s → Hits (begins (code "/") s) (drop o.width s) path → Hits slash s (b ∷ path)
  unfolding every
  one-hits t w l h =
      record {
        pieces = r.piece ∷ h.pieces;
        are = r.item ∙ ap (λ (i : List Item). alone r.piece ∷ i) h.are;
        short = omega (arith, h.short, length-drop o.width s);
        whole = one-front h.pieces ∙ rw (t, h.whole);
        literal = λ q. rw (r.literal q, r.filled);
      }

-- a miss is matched by no expansion
pub told-miss : (path s : List ℕ) (slash : Bool) → outcome_of slash s path ≡ outcome.Miss → (vs : List Variable) → some_after slash vs s path ≡ false
unfolding outcome_of
told-miss [] s slash e vs = rest-miss slash [] s e vs
told-miss (b ∷ p) s slash e vs = go (one_at slash b s) refl e (λ o f. told-miss p (drop o.width s) (begins (code "/") s) f vs)
  where
    later : One → Outcome
    later o = outcome_of (begins (code "/") s) (drop o.width s) p

    go : (m : Option One) → one_at slash b s ≡ m → step_of m later (rest_of s (b ∷ p)) ≡ outcome.Miss →
        ((o : One) → later o ≡ outcome.Miss → some_after (begins (code "/") s) vs (drop o.width s) p ≡ false) → some_after slash vs s (b ∷ p) ≡ false
    go None q e more = rest-miss slash (b ∷ p) s e vs
    go (Some o) q e more = one-some slash b s p o (one_piece slash b s o q) vs ∙ takes o.takes e
      where
        takes : (t : Bool) → (if t then later o else outcome.Miss) ≡ outcome.Miss → (t && some_after (begins (code "/") s) vs (drop o.width s) p) ≡ false
        takes true e = more o e
        takes false e = refl

-- a hit is a pattern of one expansion, which matches
pub told-hit : (path s : List ℕ) (slash : Bool) → outcome_of slash s path ≡ outcome.Hit → Hits slash s path
unfolding outcome_of
told-hit [] s slash e = rest-hit slash [] s e
told-hit (b ∷ p) s slash e = go (one_at slash b s) refl e (λ o f. told-hit p (drop o.width s) (begins (code "/") s) f)
  where
    later : One → Outcome
    later o = outcome_of (begins (code "/") s) (drop o.width s) p

    go : (m : Option One) → one_at slash b s ≡ m → step_of m later (rest_of s (b ∷ p)) ≡ outcome.Hit →
        ((o : One) → later o ≡ outcome.Hit → Hits (begins (code "/") s) (drop o.width s) p) → Hits slash s (b ∷ p)
    go None q e more = rest-hit slash (b ∷ p) s e
    go (Some o) q e more = takes o.takes refl e
      where
        takes : (t : Bool) → o.takes ≡ t → (if t then later o else outcome.Miss) ≡ outcome.Hit → Hits slash s (b ∷ p)
        takes true k e = let w = one-within slash b s o q in one-hits slash b s p o (one_piece slash b s o q) k w.0 w.1 (more o e)
        takes false k e = absurd (let n : ◌≡◌ {A = ℕ} 0 1 = cc in omega arith)

-- ---- a pattern of pieces only has no fault but of its length and its first piece

form-alone : (ps : List Piece) → every good_item (map alone ps) ≡ true
unfolding every
form-alone [] = refl
form-alone (p ∷ ps) = form-alone ps

names-alone : (known : List ℕ → Bool) (ps : List Piece) → every (names_item known) (map alone ps) ≡ true
unfolding every
names-alone known [] = refl
names-alone known (p ∷ ps) = names-alone known ps

count-alone : (f : List ℕ → ℕ) (ps : List Piece) → of_items counting f (map alone ps) ≡ 1
unfolding of_items
count-alone f [] = refl
count-alone f (p ∷ ps) = rw (count-alone f ps)

module _ (vs : List Variable) (s : List ℕ) (ps : List Piece) (e : items 0 s ≡ map alone ps) where
  straight-form : pattern_form s ≡ true
  unfolding pattern_form
  straight-form = rw e (form-alone ps)

  straight-names : pattern_names (is_set vs) s ≡ true
  unfolding pattern_names
  straight-names = rw e (names-alone (is_set vs) ps)

  straight-sizes : length ps ≤ 1024 → too_many vs s ≡ false
  unfolding too_many count longest
  straight-sizes h = go (count vs s) (longest (expansions vs s)) (rw e (count-alone (of_name counting vs) ps)) (rw (straight vs s ps e) (omega arith))
    where
      go : (n m : ℕ) → n ≡ 1 → m ≤ 1024 → elim (ltb 256 n) as (λ _. Bool) [ true ↦ true | false ↦ ltb 1024 m ] ≡ false
      go n m p q = rw (p, le-ltb 1024 m q)

  straight-rooted : begins_slash ps ≡ true → rooted vs s ≡ true
  unfolding rooted every
  straight-rooted b = rw (straight vs s ps e, b)

  pub straight-good : length ps ≤ 1024 → length s ≤ 1024 → begins_slash ps ≡ true → pattern_fault vs s ≡ 0
  unfolding pattern_fault
  straight-good l h b =
      go (ltb 1024 (length s)) (pattern_form s) (pattern_names (is_set vs) s) (too_many vs s) (rooted vs s) (le-ltb 1024 (length s) h) straight-form straight-names (straight-sizes l) (straight-rooted b)
    where
      go : (a b c d r : Bool) → a ≡ false → b ≡ true → c ≡ true → d ≡ false → r ≡ true →
          ◌≡◌ {A = ℕ}
          (elim a as (λ _. ℕ) [ true ↦ 9 | false ↦ elim b as (λ _. ℕ) [ false ↦ 7 | true ↦ elim c as (λ _. ℕ) [ false ↦ 6 | true ↦ elim d as (λ _. ℕ) [ true ↦ 9 | false ↦ elim r as (λ _. ℕ) [ false ↦ 7 | true ↦ 0 ] ] ] ] ])
          0
      go a b c d r p q x y z = rw (p, q, x, y, z)

-- ---- behind the front of a pattern

-- the front's literals are pieces too
pub front_items : (slash : Bool) (s : List ℕ) (ps : List Piece) → items 0 (drop (length (front_after slash s)) s) ≡ map alone ps →
    items 0 s ≡ map alone (map Byte (front_after slash s) ++ ps)
unfolding front_after
front_items slash [] ps e = e
front_items slash (b ∷ s) ps e = go (plain_after slash b) refl (front_items (eqb b (code "/")) s ps) e
  where
    go : (t : Bool) → plain_after slash b ≡ t →
        (items 0 (drop (length (front_after (eqb b (code "/")) s)) s) ≡ map alone ps → items 0 s ≡ map alone (map Byte (front_after (eqb b (code "/")) s) ++ ps)) →
        items 0 (drop (length (if t then b ∷ front_after (eqb b (code "/")) s else [])) (b ∷ s)) ≡ map alone ps →
        items 0 (b ∷ s) ≡ map alone (map Byte (if t then b ∷ front_after (eqb b (code "/")) s else []) ++ ps)
    go false q later e = e
    go true q later e =
        items-ordinary b s (not-true (special b) (and_left (ordinary b) (not (slash && eqb b (code "/"))) q))
        ∙ ap (λ (l : List Item). alone (Byte b) ∷ l) (later e)

-- it goes up to the first that is no plain literal
pub front-stops : (slash : Bool) (s : List ℕ) → plain_first (slash_after slash (front_after slash s)) (drop (length (front_after slash s)) s) ≡ false
unfolding front_after slash_after
front-stops slash [] = refl
front-stops slash (b ∷ s) = go (plain_after slash b) refl (front-stops (eqb b (code "/")) s)
  where
    go : (t : Bool) → plain_after slash b ≡ t → plain_first (slash_after (eqb b (code "/")) (front_after (eqb b (code "/")) s)) (drop (length (front_after (eqb b (code "/")) s)) s) ≡ false →
        plain_first (slash_after slash (if t then b ∷ front_after (eqb b (code "/")) s else [])) (drop (length (if t then b ∷ front_after (eqb b (code "/")) s else [])) (b ∷ s)) ≡ false
    go false q later = q
    go true q later = later
