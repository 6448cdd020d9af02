-- Every expansion tried by its number; a pattern without fault under a right table of sizes.
use Rattle.std.specs.Prelude.{Option, None, Some, if◌then◌else◌}
use Prim.Native.Nat.{ℕ, zero, suc, ◌+◌, ◌-◌, ◌≤◌, ◌<◌}
use Prim.Native.Char.{code}
use mathlib.Core.Path.{◌≡◌, refl, sym, ap, ap₂, ◌∙◌}
use mathlib.Core.Logic.{◌⊎◌, inl, inr}
use mathlib.Core.List.{List, [], ◌∷◌, ◌++◌, map}
use mathlib.Core.Bool.{Bool, true, false, not, ◌&&◌, ◌||◌, false≢true, and-false, or_assoc, or-false}
use native.Mathlib.Nat.{not-suc-le-zero}
use native.Mathlib.Numerals.{add-one}
use native.Mathlib.Omega.{arith}
use lib.ListN.{length, get_or, take, drop, length-drop, length-map, length-take, take-append-drop, drop_of_length-le}
use lib.Seq.{take_all, take-take, drop-cons}
use lib.Dec.{eqb, ltb}
use borrow.Author.Tests.{eq-eqb, ne_eqb, eqb-true, eqb-false, ltb-true, ltb-false, le-leb, leb-true, not-true}
use Rattle.scan.specs.Bytes.{every, some, holds, span}
use Rattle.pattern.specs.Pieces.{Piece, Byte, One, Star, StarStar, Class}
use Rattle.pattern.specs.Items.{pattern_form, pattern_names}
use Rattle.pattern.specs.Codes.{decode}
use Rattle.pattern.specs.Expansions.{Variable, is_set, expansions, count, longest, is_literal, joined_after, joined}
use Rattle.pattern.specs.Faults.{pattern_fault, too_long, too_many, rooted}
use Rattle.pattern.specs.Table.{env}
use Rattle.pattern.specs.Literals.{special, ordinary}
use Rattle.pattern.proofs.Names.{same-expansions, same-fault}
use Rattle.sizes.specs.Sizes.{Known}
use Rattle.sizes.specs.Numbered.{Numbered, pattern_by}
use Rattle.sizes.proofs.Choices.{count-length}
use Rattle.sizes.proofs.Laws.{size-count}
use Rattle.sizes.proofs.Numbered.{pattern-right}
use Rattle.faults.specs.Sized.{fault_by}
use Rattle.faults.proofs.Laws.{faults-known}
use Rattle.expand.specs.Write.{text_fits, Written, Drafted}
use Rattle.codes.specs.declared.Held.{Held}
use Rattle.codes.specs.Held.{held_none, held_byte, held_wild, held_piece, held_pieces, differs}
use Rattle.codes.proofs.Laws.{held_then, held-over, held-gone}
use Rattle.matcher.proofs.Laws.{matches-nil, matches-one}
use Rattle.matcher.specs.Match.{matches, matches_some, matches_exactly}
use Rattle.matcher.specs.Walk.{path_fits}
use Rattle.scan.proofs.Bools.{and_left, and_right, or_right}
use Rattle.scan.proofs.Laws.{drop-span}
use Rattle.front.specs.declared.Led.{Led}
use Rattle.front.specs.Front.{beginning, plain_after, front_after, front, slash_after, lead_of, some_after, exact_after}
use Rattle.front.proofs.Laws.{plain-expansions, some_after_lem, exact-after, behind, behind-exactly, front-none, front-none-exactly, lead-some, lead-len, lead-slash, rest-after}
use Rattle.choices.specs.Choices.{opens}
use Rattle.choices.proofs.Laws.{opens-none}
use Rattle.front.proofs.Far.{front-le}
use Rattle.glob.specs.declared.Matched.{Matched}
use Rattle.glob.specs.Glob.{no_match, matched_of, matched_by, some_below, matched_at, matched_below, matched_all, matched_behind, matched_in}

-- ---- one expansion

pub codes-matched : (path : List ℕ) (slash : Bool) (x : List Piece) {literal found : Bool} {left : List Piece} → path_fits path ≡ true →
    literal ≡ every is_literal x → left ≡ joined_after slash x → found ≡ (path_fits path && matches left path) →
    ◌≡◌ {A = Matched} (record { some = found; exact = literal && found }) (matched_by slash x path)
unfolding matched_by
codes-matched path slash x fits l j f = rw (l, f, fits, j)

-- where one of its first literals differs from the path, it does not match
module _ (path : List ℕ) where
  -- from a place of the path on, where all so far were literals that agree with it
  abbrev from : ℕ → Bool → Held
  from at slash = record { at = at; slash = slash; wild = false; gone = false }

  -- a piece that is no literal
  wild-none : {A : Type 0} (at : ℕ) (slash : Bool) (ps : List Piece) → (held_pieces path (held_wild (from at slash)) ps).gone ≡ true → A
  wild-none at slash ps e = absurd (false≢true (sym (ap (λ (h : Held). h.gone) (held-over path (held_wild (from at slash)) ps refl)) ∙ e))

  -- a literal that is kept: it is the path's next byte and what follows differs, or it is not
  byte-none : (c : ℕ) (ps : List Piece) (at : ℕ) (slash : Bool) → ((held_pieces path (from (suc at) (eqb c (code "/"))) ps).gone ≡ true → matches (joined_after (eqb c (code "/")) ps) (drop (suc at) path) ≡ false) →
      (t u : Bool) → ltb at (length path) ≡ t → eqb (get_or path at 0) c ≡ u →
      (held_pieces path (if t && u then from (suc at) (eqb c (code "/")) else record { at = at; slash = slash; wild = false; gone = true }) ps).gone ≡ true →
      matches (Byte c ∷ joined_after (eqb c (code "/")) ps) (drop at path) ≡ false
  byte-none c ps at slash later false u p q e =
      rw (drop_of_length-le path {i = at} (ltb-false at (length path) p)) (matches-nil (Byte c) (joined_after (eqb c (code "/")) ps))
  byte-none c ps at slash later true false p q e =
      rw (drop-cons path at 0 (ltb-true at (length path) p)) (matches-one (Byte c) (joined_after (eqb c (code "/")) ps) (get_or path at 0) (drop (suc at) path) refl ∙ rw q)
  byte-none c ps at slash later true true p q e =
      rw (drop-cons path at 0 (ltb-true at (length path) p)) (matches-one (Byte c) (joined_after (eqb c (code "/")) ps) (get_or path at 0) (drop (suc at) path) refl ∙ rw (q, later e))

  differs-from : (ps : List Piece) (at : ℕ) (slash : Bool) → (held_pieces path (from at slash) ps).gone ≡ true → matches (joined_after slash ps) (drop at path) ≡ false
  unfolding held_pieces held_piece held_byte joined_after
  differs-from [] at slash e = absurd (false≢true e)
  differs-from (One ∷ ps) at slash e = wild-none at slash ps e
  differs-from (Star ∷ ps) at slash e = wild-none at slash ps e
  differs-from (StarStar ∷ ps) at slash e = wild-none at slash ps e
  differs-from (Class k ∷ ps) at slash e = wild-none at slash ps e
  differs-from (Byte c ∷ ps) at slash e = go slash (eqb c (code "/")) refl (differs-from ps at true) (differs-from ps (suc at) (eqb c (code "/"))) e
    where
      go : (s t : Bool) → eqb c (code "/") ≡ t → ((held_pieces path (from at true) ps).gone ≡ true → matches (joined_after true ps) (drop at path) ≡ false) →
          ((held_pieces path (from (suc at) (eqb c (code "/"))) ps).gone ≡ true → matches (joined_after (eqb c (code "/")) ps) (drop (suc at) path) ≡ false) →
          (held_pieces path
          (if s && t then from at s
          else if ltb at (length path) && eqb (get_or path at 0) c then from (suc at) (eqb c (code "/"))
          else record { at = at; slash = s; wild = false; gone = true }) ps).gone ≡ true →
          matches (if s && t then joined_after true ps else Byte c ∷ joined_after (eqb c (code "/")) ps) (drop at path) ≡ false
      go true true q here later h = here h
      go true false q here later h = byte-none c ps at true later (ltb at (length path)) (eqb (get_or path at 0) c) refl refl h
      go false t q here later h = byte-none c ps at false later (ltb at (length path)) (eqb (get_or path at 0) c) refl refl h

-- what was drafted of an expansion to a buffer of at most 1,024 places
module _ (text path : List ℕ) (slash : Bool) (x : List Piece) {out end : List ℕ} {r : Option ℕ} (fits : (text_fits text && path_fits path) ≡ true)
    (d : Drafted text out end slash path r (if text_fits text then x else [])) (room : length out ≤ 1024) where
  -- it was given up
  pub draft-gone : r ≡ None → no_match ≡ matched_by slash (take 1024 x) path
  unfolding matched_by
  draft-gone g =
      let k = length out in
      let q : differs slash path (take k x) ≡ true = rw (and_left (text_fits text) (path_fits path) fits) at (rw g at d.gone) in
      let e : take k x ++ drop k (take 1024 x) ≡ take 1024 x = rw (take-take k 1024 x room) at (take-append-drop k (take 1024 x)) in
      let h : differs slash path (take 1024 x) ≡ true =
      rw (← e) (ap (λ (z : Held). z.gone) (held_then path (held_none slash) (take k x) (drop k (take 1024 x)) ∙ held-gone path (held_pieces path (held_none slash) (take k x)) (drop k (take 1024 x)) q) ∙ q) in
      rw (differs-from path (take 1024 x) 0 slash h, and-false)

  module _ {count : ℕ} (g : r ≡ Some count) where
    written : Written text out end count x
    written = rw (and_left (text_fits text) (path_fits path) fits) at (rw g at d.written)

    -- there was room for all of it
    pub draft-whole : (length out ≡ 1024) ⊎ (count < length out) → map (decode text) (take count end) ≡ take 1024 x
    draft-whole (inl e) = written.all ∙ rw e
    draft-whole (inr h) =
        let n : length (take count end) ≡ length (take (length out) x) = sym (length-map (take count end) (decode text)) ∙ ap length written.all in
        let l : length x ≤ count =
        omega (arith, n, length-take count end, length-take (length out) x, written.size, written.fits) in
        written.all ∙ take_all (length out) x (omega arith) ∙ sym (take_all 1024 x (omega arith))

-- ---- all expansions, by number

below_at : (p : ℕ → Bool) (k d : ℕ) → d < k → p d ≡ true → some_below p k ≡ true
unfolding some_below
below_at p zero d h e = absurd (not-suc-le-zero h)
below_at p (suc k) d h e = go (eqb d k) refl (below_at p k d)
  where
    go : (x : Bool) → eqb d k ≡ x → (d < k → p d ≡ true → some_below p k ≡ true) → (some_below p k || p k) ≡ true
    go true q f = or_right (some_below p k) (p k) (ap p (sym (eqb-true d k q)) ∙ e)
    go false q f = let n : d ≡ k → ⊥ = eqb-false d k q in ap (λ (z : Bool). z || p k) (f (omega arith) e)

-- the first d expansions were tried: one of them matches, or none, and none exactly
pub record Tried (slash : Bool) (a : Numbered) (path : List ℕ) (d : ℕ) (found : Bool) : Type 0 where
  pub hits : found ≡ (matched_below slash a path d).some
  pub exactly : false ≡ (matched_below slash a path d).exact

module _ (slash : Bool) (a : Numbered) (path : List ℕ) where
  pub tried-none : Tried slash a path 0 false
  unfolding some_below
  tried-none = record { hits = refl; exactly = refl }

  exact-hits : (x : List Piece) → (matched_by slash x path).exact ≡ true → (matched_by slash x path).some ≡ true
  unfolding matched_by
  exact-hits x q = and_right (every is_literal x) (matches (joined_after slash x) path) q

  module _ {d : ℕ} {m : Matched} (e : m ≡ matched_at slash a path d) where
    pub tried-more : {found : Bool} → Tried slash a path d found → m.exact ≡ false → Tried slash a path (d + 1) (found || m.some)
    unfolding some_below
    tried-more p k =
        rw add-one
        (record {
          hits = ap₂ (λ (x y : Bool). x || y) p.hits (ap (λ (z : Matched). z.some) e);
          exactly = ap₂ (λ (x y : Bool). x || y) p.exactly (sym k ∙ ap (λ (z : Matched). z.exact) e);
        })

    pub tried-found : (k : ℕ) → d < k → m.exact ≡ true → m ≡ matched_below slash a path k
    tried-found k h q =
        let x : (matched_at slash a path d).exact ≡ true = ap (λ (z : Matched). z.exact) (sym e) ∙ q in
        let y : m.some ≡ true = ap (λ (z : Matched). z.some) e ∙ exact-hits (take 1024 (a.nth d)) x in
        let t : m ≡ record { some = true; exact = true } = ap₂ (λ (s x : Bool). record { some = s; exact = x }) y q in
        t ∙ rw (below_at (λ i. (matched_at slash a path i).exact) k d h x, below_at (λ i. (matched_at slash a path i).some) k d h (exact-hits (take 1024 (a.nth d)) x))

  pub tried-all : {d : ℕ} {found : Bool} → Tried slash a path d found → (k : ℕ) → d ≡ k → ◌≡◌ {A = Matched} (record { some = found; exact = false }) (matched_below slash a path k)
  tried-all p k e = rw (← e, p.hits, p.exactly)

-- ---- by number or by the list

first_below : (p : ℕ → Bool) (n : ℕ) → some_below p (suc n) ≡ (p 0 || some_below (λ d. p (suc d)) n)
unfolding some_below
first_below p zero = sym (or-false (p 0))
first_below p (suc n) =
    ap (λ (z : Bool). z || p (suc n)) (first_below p n) ∙ or_assoc (p 0) (some_below (λ d. p (suc d)) n) (p (suc n))

some_below_lem : {A : Type 0} (p : A → Bool) (xs : List A) (z : A) (q : ℕ → Bool) → ((d : ℕ) → d < length xs → q d ≡ p (get_or xs d z)) →
    some_below q (length xs) ≡ some p xs
unfolding some some_below
some_below_lem p [] z q e = refl
some_below_lem p (x ∷ xs) z q e =
    first_below q (length xs) ∙ ap₂ (λ (a b : Bool). a || b) (e 0 (omega arith)) (some_below_lem p xs z (λ d. q (suc d)) (λ d h. e (suc d) (omega arith)))

-- an expansion is no longer than the longest
length-longest : (xs : List (List Piece)) (d : ℕ) → length (get_or xs d []) ≤ longest xs
unfolding longest
length-longest [] d = omega arith
length-longest (x ∷ xs) zero = omega arith
length-longest (x ∷ xs) (suc d) = omega (arith, length-longest xs d)

-- ---- a pattern without fault

faultless : (vs : List Variable) (s : List ℕ) → pattern_fault vs s ≡ 0 → too_many vs s ≡ false
unfolding pattern_fault
faultless vs s e = go (too_long s) (pattern_form s) (pattern_names (is_set vs) s) (too_many vs s) (rooted vs s) e
  where
    go : (a b c d r : Bool) →
        ◌≡◌ {A = ℕ}
        (elim a as (λ _. ℕ) [ true ↦ 9 | false ↦ elim b as (λ _. ℕ) [ false ↦ 7 | true ↦ elim c as (λ _. ℕ) [ false ↦ 6 | true ↦ elim d as (λ _. ℕ) [ true ↦ 9 | false ↦ elim r as (λ _. ℕ) [ false ↦ 7 | true ↦ 0 ] ] ] ] ])
        0 → d ≡ false
    go true b c d r q = absurd (omega arith)
    go false false c d r q = absurd (omega arith)
    go false true false d r q = absurd (omega arith)
    go false true true true r q = absurd (omega arith)
    go false true true false r q = refl

sized : (vs : List Variable) (s : List ℕ) → too_many vs s ≡ false → (length (expansions vs s) ≤ 256) × (longest (expansions vs s) ≤ 1024)
unfolding too_many
sized vs s e = go (ltb 256 (count vs s)) (ltb 1024 (longest (expansions vs s))) refl refl e
  where
    go : (a b : Bool) → ltb 256 (count vs s) ≡ a → ltb 1024 (longest (expansions vs s)) ≡ b → elim a as (λ _. Bool) [ true ↦ true | false ↦ b ] ≡ false →
        (length (expansions vs s) ≤ 256) × (longest (expansions vs s) ≤ 1024)
    go true b p q r = absurd (let z : ◌≡◌ {A = ℕ} 0 1 = cc in omega arith)
    go false true p q r = absurd (let z : ◌≡◌ {A = ℕ} 0 1 = cc in omega arith)
    go false false p q r = (omega (arith, ltb-false 256 (count vs s) p, count-length vs s), omega (arith, ltb-false 1024 (longest (expansions vs s)) q))

abbrev Within : List (List Piece) → Type 0
Within xs = (length xs ≤ 256) × (longest xs ≤ 1024)

good-within : (vs : List Variable) (s : List ℕ) → pattern_fault vs s ≡ 0 → Within (expansions vs s)
good-within vs s e = sized vs s (faultless vs s e)

module _ {text vars : List ℕ} {n : ℕ} {table : List ℕ} (known : Known text vars n table) (slash : Bool) (pattern path : List ℕ)
    (within : Within (expansions (env text vars n) pattern)) where
  same-nth : (d : ℕ) → d < length (expansions (env text vars n) pattern) →
      take 1024 ((pattern_by text vars n table pattern).nth d) ≡ get_or (expansions (env text vars n) pattern) d []
  same-nth d h =
      let xs = expansions (env text vars n) pattern in
      ap (take 1024) ((pattern-right known pattern).nth d (omega (arith, within.0)) h)
      ∙ take_all 1024 (get_or xs d []) (omega (arith, length-longest xs d, within.1))

  same-all : matched_all slash (pattern_by text vars n table pattern) path ≡
      record { some = some_after slash (env text vars n) pattern path; exact = exact_after slash (env text vars n) pattern path }
  unfolding some_after exact_after matched_by
  same-all =
      let xs = expansions (env text vars n) pattern in
      let a = pattern_by text vars n table pattern in
      let k : a.size.count ≡ length xs = omega (arith, size-count xs (pattern-right known pattern).size, within.0) in
      let s = some_below_lem (λ x. (matched_by slash x path).some) xs [] (λ d. (matched_at slash a path d).some) (λ d h. ap (λ (x : List Piece). (matched_by slash x path).some) (same-nth d h)) in
      let e = some_below_lem (λ x. (matched_by slash x path).exact) xs [] (λ d. (matched_at slash a path d).exact) (λ d h. ap (λ (x : List Piece). (matched_by slash x path).exact) (same-nth d h)) in
      rw (k, s, e)

-- ---- what stands behind the front

-- no more expansions, and none longer
longest-more : (b : ℕ) (xs : List (List Piece)) → longest xs ≤ longest (map (λ x. Byte b ∷ x) xs)
unfolding longest
longest-more b [] = omega arith
longest-more b (x ∷ xs) = omega (arith, longest-more b xs)

behind-within : (vs : List Variable) (s : List ℕ) (slash : Bool) → Within (expansions vs s) → Within (expansions vs (drop (length (front_after slash s)) s))
unfolding front_after
behind-within vs [] slash w = w
behind-within vs (b ∷ s) slash w = go (plain_after slash b) refl (behind-within vs s (eqb b (code "/")))
  where
    go : (t : Bool) → plain_after slash b ≡ t → (Within (expansions vs s) → Within (expansions vs (drop (length (front_after (eqb b (code "/")) s)) s))) →
        Within (expansions vs (drop (length (if t then b ∷ front_after (eqb b (code "/")) s else [])) (b ∷ s)))
    go false e f = w
    go true e f =
        let p : expansions vs (b ∷ s) ≡ map (λ x. Byte b ∷ x) (expansions vs s) = plain-expansions vs b s (not-true (special b) (and_left (ordinary b) (not (slash && eqb b (code "/"))) e)) in
        let v : Within (map (λ x. Byte b ∷ x) (expansions vs s)) = rw (← p) w in
        f (omega (arith, v.0, length-map (expansions vs s) (λ x. Byte b ∷ x)), omega (arith, v.1, longest-more b (expansions vs s)))

beginning-le : (f path : List ℕ) → beginning f path ≡ true → length f ≤ length path
unfolding beginning
beginning-le [] path e = omega arith
beginning-le (a ∷ f) [] e = absurd (false≢true e)
beginning-le (a ∷ f) (b ∷ path) e = omega (arith, beginning-le f path (and_right (eqb a b) (beginning f path) e))

-- the path begins with the front: the places behind it
module _ (s path : List ℕ) {l : Led} (told : lead_of false s path ≡ Some l) where
  pub len-path : l.len ≤ length path
  len-path = omega (arith, lead-len false s path told, beginning-le (front s) path (lead-some false s path told))

  pub len-pattern : l.len ≤ length s
  len-pattern = omega (arith, lead-len false s path told, front-le false s)

rest : (s : List ℕ) (k : ℕ) → take (length s - k) (drop k s) ≡ drop k s
rest s k = take_all (length s - k) (drop k s) (omega (arith, length-drop k s))

module _ (text path : List ℕ) (fits : (text_fits text && path_fits path) ≡ true) where
  pub short-text : length text ≤ 65535
  short-text = leb-true (length text) 65535 (and_left (text_fits text) (path_fits path) fits)

  pub fits-rest : (k : ℕ) → (text_fits text && path_fits (take (length path - k) (drop k path))) ≡ true
  fits-rest k =
      rw rest
      (ap₂ ◌&&◌ (and_left (text_fits text) (path_fits path) fits)
      (le-leb (length (drop k path)) 4095 (omega (arith, length-drop k path, leb-true (length path) 4095 (and_right (text_fits text) (path_fits path) fits)))))

module _ (text vars : List ℕ) (n a e : ℕ) (path : List ℕ) {l : Led} (told : lead_of false (span text a e) path ≡ Some l) where
  pub behind-matched : (table : List ℕ) {m : Matched} →
      m ≡ matched_all l.slash (pattern_by text vars n table (span text (a + l.len) e)) (take (length path - l.len) (drop l.len path)) →
      m ≡ matched_behind text vars n table (span text a e) path
  unfolding matched_behind
  behind-matched table h =
      rw (← lead-slash false (span text a e) path told, ← lead-len false (span text a e) path told, drop-span text a e, ← rest path l.len) h

module _ {text vars : List ℕ} {n : ℕ} {table : List ℕ} (known : Known text vars n table) (pattern path : List ℕ)
    (good : pattern_fault (env text vars n) pattern ≡ 0) where
  same-behind : beginning (front pattern) path ≡ true → matched_behind text vars n table pattern path ≡
      record { some = matches_some (env text vars n) pattern path; exact = matches_exactly (env text vars n) pattern path }
  unfolding matched_behind
  same-behind h =
      let vs = env text vars n in
      let f = front pattern in
      same-all known (slash_after false f) (drop (length f) pattern) (drop (length f) path) (behind-within vs pattern false (good-within vs pattern good))
      ∙ sym (rw (some_after_lem vs pattern path, exact-after vs pattern path, behind false vs pattern path, behind-exactly false vs pattern path, h))

  -- a path that does not begin with the front is matched by no expansion
  pub matched-known : matched_in text vars n table pattern path ≡ matched_of text (env text vars n) pattern path
  unfolding matched_in matched_of
  matched-known =
      rw (eq-eqb (pattern_fault (env text vars n) pattern) 0 good)
      (go (text_fits text) (path_fits path) (beginning (front pattern) path) same-behind
      (λ e. rw (front-none (env text vars n) pattern path e, front-none-exactly (env text vars n) pattern path e)))
    where
      go : (t p f : Bool) {x m : Matched} → (f ≡ true → x ≡ m) → (f ≡ false → m ≡ no_match) → (if t && p && f then x else no_match) ≡ (if t && p && true then m else no_match)
      go false p f y e = refl
      go true false f y e = refl
      go true true true y e = y refl
      go true true false y e = sym (e refl)

-- ---- judged after it was matched

-- where nothing matches, nothing does exactly
none-exactly : (xs : List (List Piece)) (path : List ℕ) → some (λ x. matches (joined x) path) xs ≡ false →
    some (λ x. every is_literal x && matches (joined x) path) xs ≡ false
unfolding some
none-exactly [] path e = refl
none-exactly (x ∷ xs) path e = go (matches (joined x) path) (every is_literal x) e (none-exactly xs path)
  where
    go : (m l : Bool) {r s : Bool} → (m || r) ≡ false → (r ≡ false → s ≡ false) → ((l && m) || s) ≡ false
    go true l q f = absurd (let z : ◌≡◌ {A = ℕ} 0 1 = cc in omega arith)
    go false true q f = f q
    go false false q f = f q

-- a pattern of which nothing matches
pub unmatched : (text : List ℕ) (vs : List Variable) (pattern path : List ℕ) → matches_some vs pattern path ≡ false → no_match ≡ matched_of text vs pattern path
unfolding matches_some matches_exactly matched_of
unmatched text vs pattern path e = rw (e, none-exactly (expansions vs pattern) path e) (go (text_fits text && path_fits path && eqb (pattern_fault vs pattern) 0))
  where
    go : (t : Bool) → no_match ≡ (if t then no_match else no_match)
    go true = refl
    go false = refl

-- one with a fault
pub faulty : (text : List ℕ) (vs : List Variable) (pattern path : List ℕ) → (pattern_fault vs pattern ≡ 0 → ⊥) → no_match ≡ matched_of text vs pattern path
unfolding matched_of
faulty text vs pattern path e = rw (ne_eqb (pattern_fault vs pattern) 0 e) (go (text_fits text) (path_fits path))
  where
    go : (t p : Bool) → no_match ≡ (if t && p && false then record { some = matches_some vs pattern path; exact = matches_exactly vs pattern path } else no_match)
    go true true = refl
    go true false = refl
    go false p = refl

-- one whose first choices do not begin the path behind the front
pub unopened : (depth : ℕ) (text vars : List ℕ) (n a e : ℕ) (path : List ℕ) {l : Led} → lead_of false (span text a e) path ≡ Some l → {o : Bool} →
    o ≡ opens depth (env text vars n) l.slash (span text (a + l.len) e) (take (length path - l.len) (drop l.len path)) → o ≡ false →
    no_match ≡ matched_of text (env text vars n) (span text a e) path
unopened depth text vars n a e path {l} told q o =
    let vs = env text vars n in
    let s = span text a e in
    let h : opens depth vs l.slash (drop l.len s) (drop l.len path) ≡ false = rw (drop-span text a e, ← rest path l.len) (sym q ∙ o) in
    unmatched text vs s path
    (some_after_lem vs s path ∙ rest-after false s path told vs ∙ opens-none depth vs l.slash (drop l.len s) (drop l.len path) h)

-- text or path too long
pub unfit : (text : List ℕ) (vs : List Variable) (pattern path : List ℕ) → (text_fits text && path_fits path) ≡ false → no_match ≡ matched_of text vs pattern path
unfolding matched_of
unfit text vs pattern path e = go (text_fits text) (path_fits path) e
  where
    go : (t p : Bool) → (t && p) ≡ false →
        no_match ≡ (if t && p && eqb (pattern_fault vs pattern) 0 then record { some = matches_some vs pattern path; exact = matches_exactly vs pattern path } else no_match)
    go true true q = absurd (let z : ◌≡◌ {A = ℕ} 0 1 = cc in omega arith)
    go true false q = refl
    go false p q = refl

module _ {text vars : List ℕ} {n : ℕ} {table : List ℕ} (known : Known text vars n table) (pattern path : List ℕ)
    (begins : beginning (front pattern) path ≡ true) {m : Matched} (e : m ≡ matched_behind text vars n table pattern path) where
  -- nothing has matched
  pub judged-none : m.some ≡ false → no_match ≡ matched_of text (env text vars n) pattern path
  judged-none q = go (eqb (pattern_fault (env text vars n) pattern) 0) refl
    where
      go : (b : Bool) → eqb (pattern_fault (env text vars n) pattern) 0 ≡ b → no_match ≡ matched_of text (env text vars n) pattern path
      go true b =
          unmatched text (env text vars n) pattern path
          (sym (ap (λ (z : Matched). z.some) (e ∙ same-behind known pattern path (eqb-true (pattern_fault (env text vars n) pattern) 0 b) begins)) ∙ q)
      go false b = faulty text (env text vars n) pattern path (eqb-false (pattern_fault (env text vars n) pattern) 0 b)

  module _ {f : ℕ} (j : f ≡ fault_by text vars n table pattern) where
    fault : f ≡ pattern_fault (env text vars n) pattern
    fault = j ∙ ap (λ (g : List ℕ → ℕ). g pattern) (faults-known known)

    pub judged-good : (text_fits text && path_fits path) ≡ true → f ≡ 0 → m ≡ matched_of text (env text vars n) pattern path
    unfolding matched_of
    judged-good fits z =
        let good : pattern_fault (env text vars n) pattern ≡ 0 = sym fault ∙ z in
        rw (and_left (text_fits text) (path_fits path) fits, and_right (text_fits text) (path_fits path) fits, eq-eqb (pattern_fault (env text vars n) pattern) 0 good)
        (e ∙ same-behind known pattern path good begins)

    pub judged-bad : (f ≡ 0 → ⊥) → no_match ≡ matched_of text (env text vars n) pattern path
    judged-bad z = faulty text (env text vars n) pattern path (λ good. z (fault ∙ good))

-- ---- under the variables that bear on it

pub under-used : (text vars : List ℕ) (n : ℕ) (pattern path : List ℕ) {k : ℕ} {m : Matched} → k ≡ (if holds (code "@") pattern then n else 0) →
    m ≡ matched_of text (env text vars k) pattern path → m ≡ matched_of text (env text vars n) pattern path
unfolding matched_of matches_some matches_exactly
under-used text vars n pattern path {k} {m} e h = go (holds (code "@") pattern) refl e
  where
    go : (t : Bool) → holds (code "@") pattern ≡ t → k ≡ (if t then n else 0) → m ≡ matched_of text (env text vars n) pattern path
    go true q z = rw (← z) h
    go false q z =
        h ∙ rw (same-fault (env text vars k) (env text vars n) pattern q, same-expansions (env text vars k) (env text vars n) pattern q)
