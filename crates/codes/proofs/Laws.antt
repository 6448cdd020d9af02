-- The laws of codes: which are literals, and slashes joined in place.
use Rattle.std.specs.Prelude.{if◌then◌else◌}
use mathlib.Core.Path.{◌≡◌, refl, sym, ap, ap₂, ◌∙◌}
use mathlib.Core.Bool.{Bool, true, false, not, ◌&&◌, ◌||◌, false≢true}
use mathlib.Core.List.{List, [], ◌∷◌, ◌++◌, append_assoc, append-nil, map}
use Prim.Native.Nat.{ℕ, suc, ◌+◌, ◌-◌, ◌≤◌, ◌<◌, min, max}
use Prim.Native.Char.{code}
use mir.Val.{bool_byte}
use native.Mathlib.Nat.{le_refl}
use native.Mathlib.Omega.{arith}
use native.Mathlib.Numerals.{add-one}
use lib.ListN.{length, take, drop, get_or, set, length-take, drop_of_length-le}
use lib.Seq.{take_all, drop-cons, drop-drop, get_or-take, length-take-le, slice_empty, take-set-le, drop-set-lt, take-suc-set}
use lib.Dec.{eqb, ltb, leb}
use borrow.Author.Tests.{lt-ltb, le-ltb, ltb-true, leb-true, leb-false}
use Rattle.scan.specs.Bytes.{every}
use Rattle.scan.proofs.Bools.{or_right}
use Rattle.scan.proofs.Laws.{drop-take}
use Rattle.pattern.specs.Pieces.{Piece, Byte, One, Star, StarStar, Class}
use Rattle.pattern.specs.Expansions.{is_literal, joined_after}
use Rattle.pattern.specs.Codes.{decode, joined_codes_after}
use Rattle.pattern.proofs.Codes.{joined-decode, test-decode, decode-byte}
use Rattle.codes.specs.Joins.{Joins}
use Rattle.codes.specs.Held.{held_from, held_byte, held_wild, held_piece, held_pieces}
use Rattle.codes.specs.declared.Held.{Held}

-- ---- literals

abbrev pub literal_code : ℕ → Bool
literal_code c = ltb c 256

literal-decode : (text : List ℕ) (c : ℕ) → is_literal (decode text c) ≡ literal_code c
literal-decode text =
    test-decode is_literal literal_code text (λ c h. sym (lt-ltb c 256 h)) refl refl refl (λ c k h. sym (le-ltb c 256 (omega arith)))

pub every-literal : (text cs : List ℕ) → every is_literal (map (decode text) cs) ≡ every literal_code cs
unfolding every
every-literal text [] = refl
every-literal text (c ∷ cs) = ap₂ ◌&&◌ (literal-decode text c) (every-literal text cs)

-- ---- the first codes, as many as counted

pub take-least : {A : Type 0} (n m : ℕ) (l : List A) → m ≡ min n (length l) → take n l ≡ take m l
take-least n m l e = go (leb n (length l)) refl
  where
    go : (t : Bool) → leb n (length l) ≡ t → take n l ≡ take m l
    go true s = let h : n ≤ length l = leb-true n (length l) s in let q : m ≡ n = omega arith in rw q
    go false s = let h : length l < n = leb-false n (length l) s in take_all n l (omega arith) ∙ sym (take_all m l (omega arith))

drop-least : (n m : ℕ) (l k : List ℕ) → m ≡ min n (length l) → length k ≡ length l → drop m k ≡ drop m l → drop n k ≡ drop n l
drop-least n m l k e same d = go (leb n (length l)) refl
  where
    go : (t : Bool) → leb n (length l) ≡ t → drop n k ≡ drop n l
    go true s = let h : n ≤ length l = leb-true n (length l) s in let q : m ≡ n = omega arith in rw q at d
    go false s =
        let h : length l < n = leb-false n (length l) s in
        drop_of_length-le k {i = n} (omega arith) ∙ sym (drop_of_length-le l {i = n} (omega arith))

module _ (l : List ℕ) (n i : ℕ) (h : i < n) (k : n ≤ length l) where
  pub next-code : drop i (take n l) ≡ get_or l i 0 ∷ drop (i + 1) (take n l)
  next-code =
      rw add-one (drop-cons (take n l) i 0 (omega (arith, length-take n l)) ∙ ap (λ (c : ℕ). c ∷ drop (suc i) (take n l)) (get_or-take n l i 0 h))

-- ---- slashes joined in place

-- what follows a code, by whether the code is kept
join-code : (slash : Bool) (c : ℕ) (cs : List ℕ) → joined_codes_after slash (c ∷ cs)
    ≡ (if slash && eqb c (code "/") then [] else c ∷ []) ++ joined_codes_after (eqb c (code "/")) cs
unfolding joined_codes_after
join-code slash c cs = go slash (eqb c (code "/"))
  where
    go : (s t : Bool) → (if s && t then joined_codes_after true cs else c ∷ joined_codes_after t cs) ≡ (if s && t then [] else c ∷ []) ++ joined_codes_after t cs
    go true true = refl
    go true false = refl
    go false t = refl

-- a turn of the loop: the code at a place is put at its new place, and counted where it is kept
pub join-turn : (codes rest : List ℕ) (c at r : ℕ) (slash : Bool) → at < length codes → r ≡ (if slash && eqb c (code "/") then 0 else 1)
    → take (at + r) (set codes at c) ++ joined_codes_after (eqb c (code "/")) rest ≡ take at codes ++ joined_codes_after slash (c ∷ rest)
join-turn codes rest c at r slash h e =
    rw (e, join-code slash c rest) (go (slash && eqb c (code "/")) ∙ append_assoc (take at codes) (if slash && eqb c (code "/") then [] else c ∷ []) (joined_codes_after (eqb c (code "/")) rest))
  where
    go : (t : Bool) → take (at + (if t then 0 else 1)) (set codes at c) ++ joined_codes_after (eqb c (code "/")) rest
        ≡ (take at codes ++ (if t then [] else c ∷ [])) ++ joined_codes_after (eqb c (code "/")) rest
    go true = let z : at + 0 ≡ at = omega arith in rw (z, take-set-le at codes at c (le_refl at), append-nil)
    go false = rw (add-one, take-suc-set codes at c h)

-- a code that is left out takes no place, another one
pub kept-from : (t : Bool) → bool_byte (not t) ≡ (if t then 0 else 1)
kept-from true = refl
kept-from false = refl

pub kept-le : (t : Bool) (r : ℕ) → r ≡ (if t then 0 else 1) → r ≤ 1
kept-le true r e = omega arith
kept-le false r e = omega arith

-- the codes behind the place are as they were
pub same-behind : (codes l : List ℕ) (i at c : ℕ) → at ≤ i → drop i codes ≡ drop i l → drop (i + 1) (set codes at c) ≡ drop (i + 1) l
same-behind codes l i at c h e =
    drop-set-lt (i + 1) codes at c (omega arith) ∙ sym (drop-drop 1 i codes) ∙ ap (drop 1) e ∙ drop-drop 1 i l

pub same_code : (codes l : List ℕ) (i : ℕ) → i < length codes → i < length l → drop i codes ≡ drop i l → get_or codes i 0 ≡ get_or l i 0
same_code codes l i h k e = ap (λ (s : List ℕ). get_or s 0 0) (sym (drop-cons codes i 0 h) ∙ e ∙ drop-cons l i 0 k)

pub join-end : (count n at : ℕ) (l codes : List ℕ) (first slash : Bool) → n ≡ min count (length l) → at ≤ n → length codes ≡ length l → drop n codes ≡ drop n l
    → take at codes ++ joined_codes_after slash (drop n (take n l)) ≡ joined_codes_after first (take n l) → Joins first count l codes at
unfolding joined_codes_after
join-end count n at l codes first slash e h k b q =
    let t : take n l ≡ take count l = sym (take-least count n l e) in
    let all : take at codes ≡ joined_codes_after first (take count l) =
    sym (append-nil (take at codes)) ∙ (rw slice_empty at q) ∙ ap (joined_codes_after first) t in
    record {
      size = sym (length-take-le at codes (omega arith)) ∙ ap length all;
      kept = all;
      behind = drop-least count n l codes e k b;
      room = k;
    }

-- and so are the pieces that the codes stand for
pub joins-decode : (text : List ℕ) {slash : Bool} {count r : ℕ} {l codes : List ℕ} → Joins slash count l codes r →
    map (decode text) (take r codes) ≡ joined_after slash (map (decode text) (take count l))
joins-decode text {slash} {count} {r} {l} {codes} h = ap (map (decode text)) h.kept ∙ joined-decode text slash (take count l)

-- ---- the first literals, held to a path

module _ (path : List ℕ) (h : Held) where
  pub held_stays : (h.wild || h.gone) ≡ true → (p : Piece) → h ≡ held_piece path h p
  unfolding held_piece
  held_stays e (Byte c) = rw e
  held_stays e One = rw e
  held_stays e Star = rw e
  held_stays e StarStar = rw e
  held_stays e (Class k) = rw e

  module _ (e : (h.wild || h.gone) ≡ false) where
    pub held-literal : (text : List ℕ) (c : ℕ) → c < 256 → held_piece path h (decode text c) ≡ held_byte path h c
    unfolding held_piece
    held-literal text c k = rw (decode-byte text c k, e)

    held-other : (p : Piece) → is_literal p ≡ false → held_wild h ≡ held_piece path h p
    unfolding held_piece
    held-other (Byte c) q = absurd (false≢true (sym q))
    held-other One q = rw e
    held-other Star q = rw e
    held-other StarStar q = rw e
    held-other (Class k) q = rw e

    pub held-wild : (text : List ℕ) (c : ℕ) → 256 ≤ c → held_piece path h (decode text c) ≡ held_wild h
    held-wild text c k = sym (held-other (decode text c) (literal-decode text c ∙ le-ltb c 256 k))

-- held on from a place
pub held-still : (h : Held) → (h.wild || h.gone) ≡ false → held_from h.at h.slash ≡ h
held-still h e = go h.wild h.gone e
  where
    go : (w g : Bool) → (w || g) ≡ false → held_from h.at h.slash ≡ record { at = h.at; slash = h.slash; wild = w; gone = g }
    go false false q = refl
    go false true q = absurd (false≢true (sym q))
    go true g q = absurd (false≢true (sym q))

module _ (path : List ℕ) (at : ℕ) (slash : Bool) (c : ℕ) where
  pub held-differs : (held_byte path (held_from at slash) c).gone ≡ true → held_byte path (held_from at slash) c ≡ record { at = at; slash = slash; wild = false; gone = true }
  unfolding held_byte
  held-differs e = go (slash && eqb c (code "/")) (ltb at (length path) && eqb (get_or path at 0) c) e
    where
      go : (s t : Bool) → (if s then held_from at slash else if t then held_from (suc at) (eqb c (code "/")) else record { at = at; slash = slash; wild = false; gone = true }).gone ≡ true →
          (if s then held_from at slash else if t then held_from (suc at) (eqb c (code "/")) else record { at = at; slash = slash; wild = false; gone = true })
          ≡ record { at = at; slash = slash; wild = false; gone = true }
      go true t q = absurd (false≢true q)
      go false true q = absurd (false≢true q)
      go false false q = refl

  module _ {k : ℕ} (kept : k ≡ (if slash && eqb c (code "/") then 0 else 1)) (e : (held_byte path (held_from at slash) c).gone ≡ false) where
    pub held-goes : held_byte path (held_from at slash) c ≡ held_from (at + k) (eqb c (code "/"))
    unfolding held_byte
    held-goes = go slash (eqb c (code "/")) (ltb at (length path) && eqb (get_or path at 0) c) kept e
      where
        go : (s b t : Bool) → k ≡ (if s && b then 0 else 1) →
            (if s && b then held_from at s else if t then held_from (suc at) b else record { at = at; slash = s; wild = false; gone = true }).gone ≡ false →
            (if s && b then held_from at s else if t then held_from (suc at) b else record { at = at; slash = s; wild = false; gone = true }) ≡ held_from (at + k) b
        go true true t z q = let y : at + k ≡ at = omega arith in rw y
        go true false true z q = let y : at + k ≡ suc at = omega arith in rw y
        go true false false z q = absurd (false≢true (sym q))
        go false b true z q = let y : at + k ≡ suc at = omega arith in rw y
        go false b false z q = absurd (false≢true (sym q))

    pub held-room : at + k ≤ max at (length path)
    unfolding held_byte
    held-room = go (slash && eqb c (code "/")) (ltb at (length path)) (eqb (get_or path at 0) c) refl kept e
      where
        go : (s t u : Bool) → ltb at (length path) ≡ t → k ≡ (if s then 0 else 1) →
            (if s then held_from at slash else if t && u then held_from (suc at) (eqb c (code "/")) else record { at = at; slash = slash; wild = false; gone = true }).gone ≡ false →
            at + k ≤ max at (length path)
        go true t u l z q = omega arith
        go false true u l z q = omega (arith, ltb-true at (length path) l)
        go false false u l z q = absurd (false≢true (sym q))

pub held-code : (path : List ℕ) (text l : List ℕ) (n i : ℕ) → i < n → n ≤ length l → (h : Held) {r : Held} → held_piece path h (decode text (get_or l i 0)) ≡ r →
    held_pieces path r (map (decode text) (drop (i + 1) (take n l))) ≡ held_pieces path h (map (decode text) (drop i (take n l)))
unfolding held_pieces
held-code path text l n i a b h e = rw (next-code l n i a b, ← e)

pub held-end : (path : List ℕ) (text l : List ℕ) (n i : ℕ) → n ≤ i → (h : Held) → held_pieces path h (map (decode text) (drop i (take n l))) ≡ h
unfolding held_pieces
held-end path text l n i a h = rw (drop_of_length-le (take n l) {i = i} (omega (arith, length-take n l)))

-- those of a list, and then those of another
pub held_then : (path : List ℕ) (h : Held) (ps qs : List Piece) → held_pieces path h (ps ++ qs) ≡ held_pieces path (held_pieces path h ps) qs
unfolding held_pieces
held_then path h [] qs = refl
held_then path h (p ∷ ps) qs = held_then path (held_piece path h p) ps qs

-- behind a piece that is no literal, and one that differed, nothing changes
pub held-over : (path : List ℕ) (h : Held) (ps : List Piece) → (h.wild || h.gone) ≡ true → held_pieces path h ps ≡ h
unfolding held_pieces
held-over path h [] e = refl
held-over path h (p ∷ ps) e = ap (λ (z : Held). held_pieces path z ps) (sym (held_stays path h e p)) ∙ held-over path h ps e

pub held-gone : (path : List ℕ) (h : Held) (ps : List Piece) → h.gone ≡ true → held_pieces path h ps ≡ h
held-gone path h ps e = held-over path h ps (or_right h.wild h.gone e)
