-- A path is matched where it begins with a pattern's front, and what follows it is matched by what follows the front.
use Rattle.std.specs.Prelude.{if◌then◌else◌, Some, None}
use Rattle.std.proofs.lemmas.Option.{cond_some}
use mathlib.Core.Path.{◌≡◌, refl, sym, ap, ap₂, ◌∙◌}
use mathlib.Core.List.{List, [], ◌∷◌, map}
use mathlib.Core.Bool.{Bool, true, false, not, ◌&&◌, ◌||◌, and-false}
use Prim.Native.Nat.{ℕ}
use Prim.Native.Char.{code}
use native.Mathlib.Omega.{arith}
use lib.ListN.{length, drop}
use lib.Dec.{eqb}
use borrow.Author.Tests.{eq-eqb, ne_eqb, eqb-true, eqb-false, not-true}
use Rattle.scan.specs.Bytes.{every, some}
use Rattle.scan.proofs.Bools.{and_left, and_right}
use Rattle.pattern.specs.Pieces.{Piece, Byte}
use Rattle.pattern.specs.Expansions.{Variable, across, listing, of_items, of_name, expansions, is_slash, joined_after, is_literal}
use Rattle.pattern.specs.Items.{items}
use Rattle.pattern.specs.Literals.{special, ordinary}
use Rattle.pattern.proofs.Literals.{items-ordinary}
use Rattle.matcher.specs.Match.{matches, matches_some, matches_exactly}
use Rattle.matcher.proofs.Laws.{matches-nil, matches-one}
use Rattle.front.specs.Front.{beginning, plain_after, front_after, front, slash_after, lead_of, some_after, exact_after}
use Rattle.front.specs.declared.Led.{Led}

-- ---- Bool and lists

and_assoc : (a b c : Bool) → (a && (b && c)) ≡ ((a && b) && c)
and_assoc true b c = refl
and_assoc false b c = refl

and-swap : (a b c : Bool) → (a && (b && c)) ≡ (b && (a && c))
and-swap true b c = refl
and-swap false b c = sym (and-false b)

pub eqb-turn : (a b : ℕ) → eqb a b ≡ eqb b a
eqb-turn a b = go (eqb b a) refl
  where
    go : (x : Bool) → eqb b a ≡ x → eqb a b ≡ x
    go true e = eq-eqb a b (sym (eqb-true b a e))
    go false e = ne_eqb a b (λ q. eqb-false b a e (sym q))

module _ {A : Type 0} where
  some-eq : (p q : A → Bool) → ((x : A) → p x ≡ q x) → (xs : List A) → some p xs ≡ some q xs
  unfolding some
  some-eq p q h [] = refl
  some-eq p q h (x ∷ xs) = ap₂ ◌||◌ (h x) (some-eq p q h xs)

  some-map : {B : Type 0} (p : B → Bool) (f : A → B) (xs : List A) → some p (map f xs) ≡ some (λ x. p (f x)) xs
  unfolding some
  some-map p f [] = refl
  some-map p f (x ∷ xs) = ap (λ (b : Bool). p (f x) || b) (some-map p f xs)

  some-and : (b : Bool) (p : A → Bool) (xs : List A) → some (λ x. b && p x) xs ≡ (b && some p xs)
  unfolding some
  some-and true p xs = refl
  some-and false p [] = refl
  some-and false p (x ∷ xs) = some-and false p xs

-- ---- expansions that are kept, of which some matches the path

module _ (keep : List Piece → Bool) where
  abbrev pub kept_after : (slash : Bool) → List (List Piece) → List ℕ → Bool
  kept_after slash xs path = some (λ x. keep x && matches (joined_after slash x) path) xs

joined-keep : (slash : Bool) (p : Piece) (ps : List Piece) → (slash && is_slash p) ≡ false → joined_after slash (p ∷ ps) ≡ p ∷ joined_after (is_slash p) ps
unfolding joined_after
joined-keep slash p ps e = rw e

-- a literal is kept wherever what follows it is
module _ (keep : List Piece → Bool) (literal : (b : ℕ) (x : List Piece) → keep (Byte b ∷ x) ≡ keep x) where
  -- a byte in front of each expansion
  module _ (slash : Bool) (b : ℕ) (h : (slash && eqb b (code "/")) ≡ false) where
    one_byte : (path : List ℕ) (x : List Piece) →
        (keep (Byte b ∷ x) && matches (joined_after slash (Byte b ∷ x)) path)
        ≡ (beginning (b ∷ []) path && (keep x && matches (joined_after (eqb b (code "/")) x) (drop 1 path)))
    unfolding beginning
    one_byte [] x = rw (joined-keep slash (Byte b) x h, matches-nil (Byte b) (joined_after (eqb b (code "/")) x)) (and-false (keep (Byte b ∷ x)))
    one_byte (c ∷ path) x =
        rw (joined-keep slash (Byte b) x h, matches-one (Byte b) (joined_after (eqb b (code "/")) x) c path refl, literal b x, eqb-turn c b)
        (and-swap (keep x) (eqb b c) (matches (joined_after (eqb b (code "/")) x) path)
        ∙ and_assoc (eqb b c) true (keep x && matches (joined_after (eqb b (code "/")) x) path))

    pub kept_byte : (xs : List (List Piece)) (path : List ℕ) →
        kept_after keep slash (map (λ x. Byte b ∷ x) xs) path ≡ (beginning (b ∷ []) path && kept_after keep (eqb b (code "/")) xs (drop 1 path))
    kept_byte xs path =
        some-map (λ x. keep x && matches (joined_after slash x) path) (λ x. Byte b ∷ x) xs
        ∙ some-eq _ _ (one_byte path) xs
        ∙ some-and (beginning (b ∷ []) path) (λ x. keep x && matches (joined_after (eqb b (code "/")) x) (drop 1 path)) xs

  -- what bytes expand to, where an ordinary byte before them stands before each expansion
  module _ (F : List ℕ → List (List Piece)) (plain : (b : ℕ) (s : List ℕ) → special b ≡ false → F (b ∷ s) ≡ map (λ x. Byte b ∷ x) (F s)) where
    abbrev Behind : (slash : Bool) → (s path f : List ℕ) → Type 0
    Behind slash s path f =
        kept_after keep slash (F s) path ≡ (beginning f path && kept_after keep (slash_after slash f) (F (drop (length f) s)) (drop (length f) path))

    pub kept-front : (s path : List ℕ) (slash : Bool) → Behind slash s path (front_after slash s)
    unfolding front_after beginning slash_after
    kept-front [] path slash = refl
    kept-front (b ∷ s) path slash = go (plain_after slash b) refl (λ p. kept-front s p (eqb b (code "/")))
      where
        f : List ℕ
        f = front_after (eqb b (code "/")) s

        more : (path : List ℕ) → ((p : List ℕ) → Behind (eqb b (code "/")) s p f) →
            (beginning (b ∷ []) path && kept_after keep (eqb b (code "/")) (F s) (drop 1 path))
            ≡ (beginning (b ∷ f) path && kept_after keep (slash_after slash (b ∷ f)) (F (drop (length f) s)) (drop (length (b ∷ f)) path))
        more [] later = refl
        more (c ∷ p) later =
            sym (and_assoc (eqb b c) true (kept_after keep (eqb b (code "/")) (F s) p))
            ∙ ap (λ (x : Bool). eqb b c && x) (later p)
            ∙ and_assoc (eqb b c) (beginning f p) (kept_after keep (slash_after (eqb b (code "/")) f) (F (drop (length f) s)) (drop (length f) p))

        go : (t : Bool) → plain_after slash b ≡ t → ((p : List ℕ) → Behind (eqb b (code "/")) s p f) → Behind slash (b ∷ s) path (if t then b ∷ f else [])
        go false e later = refl
        go true e later =
            let h : special b ≡ false = not-true (special b) (and_left (ordinary b) (not (slash && eqb b (code "/"))) e) in
            let k : (slash && eqb b (code "/")) ≡ false = not-true (slash && eqb b (code "/")) (and_right (ordinary b) (not (slash && eqb b (code "/"))) e) in
            ap (λ (xs : List (List Piece)). kept_after keep slash xs path) (plain b s h) ∙ kept_byte slash b k (F s) path ∙ more path later

-- ---- what a pattern's front leaves of a pattern and a path

pub across-one : (p : Piece) (ts : List (List Piece)) → across ((p ∷ []) ∷ []) ts ≡ map (λ x. p ∷ x) ts
unfolding across
across-one p [] = refl
across-one p (t ∷ ts) = ap (λ (l : List (List Piece)). (p ∷ t) ∷ l) (across-one p ts)

pub plain-expansions : (vs : List Variable) (b : ℕ) (s : List ℕ) → special b ≡ false → expansions vs (b ∷ s) ≡ map (λ x. Byte b ∷ x) (expansions vs s)
unfolding expansions of_items
plain-expansions vs b s e = rw (items-ordinary b s e) (across-one (Byte b) (of_items listing (of_name listing vs) (items 0 s)))

-- expansions of which each is kept, and those of literals only
abbrev pub each : List Piece → Bool
each x = true

pub each-literal : (b : ℕ) (x : List Piece) → each (Byte b ∷ x) ≡ each x
each-literal b x = refl

pub every-literal : (b : ℕ) (x : List Piece) → every is_literal (Byte b ∷ x) ≡ every is_literal x
unfolding every
every-literal b x = refl

module _ (slash : Bool) (vs : List Variable) (s path : List ℕ) where
  pub some-kept : some_after slash vs s path ≡ kept_after each slash (expansions vs s) path
  unfolding some_after
  some-kept = refl

  pub exact-kept : exact_after slash vs s path ≡ kept_after (every is_literal) slash (expansions vs s) path
  unfolding exact_after
  exact-kept = refl

  abbrev f : List ℕ
  f = front_after slash s

  pub behind : some_after slash vs s path ≡ (beginning f path && some_after (slash_after slash f) vs (drop (length f) s) (drop (length f) path))
  unfolding some_after
  behind = kept-front each each-literal (expansions vs) (plain-expansions vs) s path slash

  pub behind-exactly : exact_after slash vs s path ≡ (beginning f path && exact_after (slash_after slash f) vs (drop (length f) s) (drop (length f) path))
  unfolding exact_after
  behind-exactly = kept-front (every is_literal) every-literal (expansions vs) (plain-expansions vs) s path slash

-- ---- what is told of a front

module _ (slash : Bool) (s path : List ℕ) where
  -- the front does not begin the path
  module _ (told : lead_of slash s path ≡ None) where
    pub lead-none : beginning (front_after slash s) path ≡ false
    unfolding lead_of
    lead-none = go (beginning (front_after slash s) path) _ told
      where
        go : (x : Bool) (l : Led) → (if x then Some l else None) ≡ None → x ≡ false
        go true l e = grind arith
        go false l e = refl

    module _ (vs : List Variable) where
      pub none_after : some_after slash vs s path ≡ false
      none_after = behind slash vs s path ∙ rw lead-none

      pub none-exactly : exact_after slash vs s path ≡ false
      none-exactly = behind-exactly slash vs s path ∙ rw lead-none

  -- it does, and what is left of both goes on
  module _ {l : Led} (told : lead_of slash s path ≡ Some l) where
    parts : (beginning (front_after slash s) path ≡ true) × (record { len = length (front_after slash s); slash = slash_after slash (front_after slash s) } ≡ l)
    unfolding lead_of
    parts = cond_some _ _ _ told

    pub lead-some : beginning (front_after slash s) path ≡ true
    lead-some = parts.0

    pub lead-len : l.len ≡ length (front_after slash s)
    lead-len = sym (ap (λ (l : Led). l.len) parts.1)

    pub lead-slash : l.slash ≡ slash_after slash (front_after slash s)
    lead-slash = sym (ap (λ (l : Led). l.slash) parts.1)

    module _ (vs : List Variable) where
      pub rest-after : some_after slash vs s path ≡ some_after l.slash vs (drop l.len s) (drop l.len path)
      rest-after = behind slash vs s path ∙ rw (lead-some, lead-len, lead-slash)

      pub rest-exactly : exact_after slash vs s path ≡ exact_after l.slash vs (drop l.len s) (drop l.len path)
      rest-exactly = behind-exactly slash vs s path ∙ rw (lead-some, lead-len, lead-slash)

-- ---- a whole pattern, before which no / stands

module _ (vs : List Variable) (pattern path : List ℕ) where
  pub some_after_lem : matches_some vs pattern path ≡ some_after false vs pattern path
  unfolding matches_some some_after
  some_after_lem = refl

  pub exact-after : matches_exactly vs pattern path ≡ exact_after false vs pattern path
  unfolding matches_exactly exact_after
  exact-after = refl

  -- where the front does not begin the path, no expansion matches
  pub front-none : beginning (front pattern) path ≡ false → matches_some vs pattern path ≡ false
  front-none h = some_after_lem ∙ behind false vs pattern path ∙ rw h

  pub front-none-exactly : beginning (front pattern) path ≡ false → matches_exactly vs pattern path ≡ false
  front-none-exactly h = exact-after ∙ behind-exactly false vs pattern path ∙ rw h
