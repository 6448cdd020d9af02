-- The laws of `matches`: what one piece in front does, one piece more at the end, and what one step of the walk does.
use mathlib.Core.Path.{◌≡◌, refl, sym, ap, ap₂, ◌∙◌, subst}
use mathlib.Core.Logic.{⊎_elim}
use mathlib.Core.Bool.{Bool, true, false, ◌&&◌, ◌||◌, false≢true, and-true, and-false, and_comm, or-false, and_assoc, or_assoc, and-or_distrib_left, and-or_distrib_right}
use mathlib.Core.List.{List, [], ◌∷◌, ◌++◌, append_assoc, map, map-append, reverse, reverse-cons, reverse-append, reverse-reverse}
use Prim.Native.Nat.{ℕ, zero, suc, ◌+◌, ◌≤◌, ◌<◌}
use native.Mathlib.Nat.{eq-or-lt_of_le, le_refl, le_of_suc-le-suc, not-suc-le-zero, le-suc, le_trans}
use native.Mathlib.Omega.{arith}
use native.Mathlib.Numerals.{add-one}
use lib.ListN.{set, replicate, get_or-replicate, length, take, drop, get_or, length-append, length-take, length-drop, take-append-drop}
use lib.Seq.{take-append_seam, drop-append_seam, take-suc, drop-append-le, take-take, length-take-le, take-length, drop-length, slice_empty, get_or-set_same, get_or-set_other, set-set, set-get_or}
use Rattle.scan.specs.Bytes.{every, is_empty}
use Rattle.scan.proofs.Bools.{iff, and_left, and_right, or_cases, or_right}
use Rattle.pattern.specs.Pieces.{Piece, Byte, One, Star, StarStar, Class}
use Rattle.matcher.specs.Match.{single, accepts, some_up_to, matches}
use Rattle.matcher.specs.Walk.{repeats_of, takes_of, mark_of, after}

-- ---- some number up to n

pub some-intro : (f : ℕ → Bool) (n k : ℕ) → k ≤ n → f k ≡ true → some_up_to f n ≡ true
some-intro f zero k h e = subst (λ (j : ℕ). f j ≡ true) (omega arith) e
some-intro f (suc n) k h e =
    ⊎_elim (λ q. or_right (some_up_to f n) (f (suc n)) (subst (λ (j : ℕ). f j ≡ true) q e))
    (λ l. rw (some-intro f n k (le_of_suc-le-suc l) e))
    (eq-or-lt_of_le h)

pub some-elim : (f : ℕ → Bool) (n : ℕ) → some_up_to f n ≡ true → (k : ℕ) × (k ≤ n) × (f k ≡ true)
some-elim f zero e = (zero, le_refl zero, e)
some-elim f (suc n) e =
    ⊎_elim (λ l. let r = some-elim f n l in (r.0, le_trans r.1 (le-suc n), r.2)) (λ q. (suc n, le_refl (suc n), q)) (or_cases (some_up_to f n) (f (suc n)) e)

pub some-cong : (f g : ℕ → Bool) (n : ℕ) → ((k : ℕ) → k ≤ n → f k ≡ g k) → some_up_to f n ≡ some_up_to g n
some-cong f g zero h = h zero (le_refl zero)
some-cong f g (suc n) h = ap₂ ◌||◌ (some-cong f g n (λ k l. h k (le_trans l (le-suc n)))) (h (suc n) (le_refl (suc n)))

some-and : (f : ℕ → Bool) (c : Bool) (n : ℕ) → some_up_to (λ k. f k && c) n ≡ (some_up_to f n && c)
some-and f c zero = refl
some-and f c (suc n) = ap (λ (a : Bool). a || (f (suc n) && c)) (some-and f c n) ∙ sym (and-or_distrib_right (some_up_to f n) (f (suc n)) c)

and-some : (c : Bool) (f : ℕ → Bool) (n : ℕ) → some_up_to (λ k. c && f k) n ≡ (c && some_up_to f n)
and-some c f zero = refl
and-some c f (suc n) = ap (λ (a : Bool). a || (c && f (suc n))) (and-some c f n) ∙ sym (and-or_distrib_left c (some_up_to f n) (f (suc n)))

none_of : (f : ℕ → Bool) (n : ℕ) → some_up_to f n ≡ false → (k : ℕ) → k ≤ n → f k ≡ false
none_of f n e k h = go (f k) refl
  where
    go : (t : Bool) → f k ≡ t → t ≡ false
    go true q = sym (some-intro f n k h q) ∙ e
    go false q = refl

some-none : (f : ℕ → Bool) (n : ℕ) → ((k : ℕ) → k ≤ n → f k ≡ false) → some_up_to f n ≡ false
some-none f zero h = h zero (le_refl zero)
some-none f (suc n) h = rw (some-none f n (λ k l. h k (le_trans l (le-suc n)))) (h (suc n) (le_refl (suc n)))

some-last : (f : ℕ → Bool) (n : ℕ) → ((k : ℕ) → k < n → f k ≡ false) → some_up_to f n ≡ f n
some-last f zero h = refl
some-last f (suc n) h = rw (some-none f n (λ k l. h k (omega arith)))

some_first : (f : ℕ → Bool) (n : ℕ) → some_up_to f (suc n) ≡ (f 0 || some_up_to (λ k. f (suc k)) n)
some_first f zero = refl
some_first f (suc n) =
    ap (λ (a : Bool). a || f (suc (suc n))) (some_first f n) ∙ or_assoc (f 0) (some_up_to (λ k. f (suc k)) n) (f (suc (suc n)))

-- ---- what a piece accepts, by its kind of bytes

every_true : (s : List ℕ) → every (λ b. true) s ≡ true
unfolding every
every_true [] = refl
every_true (b ∷ s) = every_true s

accepts-many : (p : Piece) → repeats_of p ≡ true → (s : List ℕ) → accepts p s ≡ every (takes_of p) s
accepts-many (Byte c) e s = absurd (false≢true e)
accepts-many One e s = absurd (false≢true e)
accepts-many Star e s = refl
accepts-many StarStar e s = sym (every_true s)
accepts-many (Class k) e s = absurd (false≢true e)

accepts-one : (p : Piece) → repeats_of p ≡ false → (s : List ℕ) → accepts p s ≡ single (takes_of p) s
accepts-one (Byte c) e s = refl
accepts-one One e s = refl
accepts-one Star e s = absurd (false≢true (sym e))
accepts-one StarStar e s = absurd (false≢true (sym e))
accepts-one (Class k) e s = refl

accepts-nil : (p : Piece) → accepts p [] ≡ repeats_of p
unfolding every
accepts-nil (Byte c) = refl
accepts-nil One = refl
accepts-nil Star = refl
accepts-nil StarStar = refl
accepts-nil (Class k) = refl

every-snoc : (t : ℕ → Bool) (s : List ℕ) (x : ℕ) → every t (s ++ (x ∷ [])) ≡ (every t s && t x)
unfolding every
every-snoc t [] x = and-true (t x)
every-snoc t (b ∷ s) x = rw (every-snoc t s x) (sym (and_assoc (t b) (every t s) (t x)))

single-snoc : (t : ℕ → Bool) (s : List ℕ) (x : ℕ) → 0 < length s → single t (s ++ (x ∷ [])) ≡ false
single-snoc t [] x h = absurd (not-suc-le-zero h)
single-snoc t (b ∷ []) x h = and-false (t b)
single-snoc t (b ∷ (c ∷ s)) x h = and-false (t b)

-- ---- one piece in front

pub matches-nil : (p : Piece) (ps : List Piece) → matches (p ∷ ps) [] ≡ (repeats_of p && matches ps [])
unfolding matches
matches-nil p ps = ap (λ (a : Bool). a && matches ps []) (accepts-nil p)

-- a cut whose first part is empty
cut-none : (ps : List Piece) (s : List ℕ) → some_up_to (λ k. is_empty (take k s) && matches ps (drop k s)) (length s) ≡ matches ps s
cut-none ps [] = refl
cut-none ps (b ∷ s) =
    some_first (λ k. is_empty (take k (b ∷ s)) && matches ps (drop k (b ∷ s))) (length s)
    ∙ rw (some-none (λ k. false) (length s) (λ k h. refl)) (or-false (matches ps (b ∷ s)))

module _ (p : Piece) (ps : List Piece) (b : ℕ) (s : List ℕ) where
  pub matches-one : repeats_of p ≡ false → matches (p ∷ ps) (b ∷ s) ≡ (takes_of p b && matches ps s)
  unfolding matches
  matches-one e =
      some_first (λ k. accepts p (take k (b ∷ s)) && matches ps (drop k (b ∷ s))) (length s)
      ∙ rw (accepts-nil, e)
      (some-cong (λ k. accepts p (b ∷ take k s) && matches ps (drop k s))
      (λ k. takes_of p b && (is_empty (take k s) && matches ps (drop k s))) (length s)
      (λ k h. rw (accepts-one p e) (and_assoc (takes_of p b) (is_empty (take k s)) (matches ps (drop k s))))
      ∙ and-some (takes_of p b) (λ k. is_empty (take k s) && matches ps (drop k s)) (length s)
      ∙ ap (λ (a : Bool). takes_of p b && a) (cut-none ps s))

  pub matches-many : repeats_of p ≡ true → matches (p ∷ ps) (b ∷ s) ≡ (matches ps (b ∷ s) || (takes_of p b && matches (p ∷ ps) s))
  unfolding matches every
  matches-many e =
      some_first (λ k. accepts p (take k (b ∷ s)) && matches ps (drop k (b ∷ s))) (length s)
      ∙ rw (accepts-nil, e)
      (ap (λ (a : Bool). matches ps (b ∷ s) || a)
      (some-cong (λ k. accepts p (b ∷ take k s) && matches ps (drop k s))
      (λ k. takes_of p b && (accepts p (take k s) && matches ps (drop k s))) (length s)
      (λ k h. rw (accepts-many p e, accepts-many p e) (and_assoc (takes_of p b) (every (takes_of p) (take k s)) (matches ps (drop k s))))
      ∙ and-some (takes_of p b) (λ k. accepts p (take k s) && matches ps (drop k s)) (length s)))

-- ---- a cut

record Cut (P Q : List ℕ → Bool) (s : List ℕ) : Type 0 where
  left : List ℕ
  right : List ℕ
  whole : s ≡ left ++ right
  first : P left ≡ true
  second : Q right ≡ true

module _ (P Q : List ℕ → Bool) where
  cut_in : (a b : List ℕ) → P a ≡ true → Q b ≡ true → some_up_to (λ k. P (take k (a ++ b)) && Q (drop k (a ++ b))) (length (a ++ b)) ≡ true
  cut_in a b p q =
      some-intro (λ k. P (take k (a ++ b)) && Q (drop k (a ++ b))) (length (a ++ b)) (length a) (simp length-append (omega arith)) (rw (take-append_seam, drop-append_seam, p, q))

  cut_out : (s : List ℕ) → some_up_to (λ k. P (take k s) && Q (drop k s)) (length s) ≡ true → Cut P Q s
  cut_out s e =
      let r = some-elim (λ k. P (take k s) && Q (drop k s)) (length s) e in
      record {
        left = take r.0 s;
        right = drop r.0 s;
        whole = sym (take-append-drop r.0 s);
        first = and_left (P (take r.0 s)) (Q (drop r.0 s)) r.2;
        second = and_right (P (take r.0 s)) (Q (drop r.0 s)) r.2;
      }

-- ---- pieces put end to end: the path is cut between them

empty-nil : (s : List ℕ) → is_empty s ≡ true → s ≡ []
empty-nil [] e = refl
empty-nil (x ∷ s) e = absurd (false≢true e)

append-in : (ps qs : List Piece) (a b : List ℕ) → matches ps a ≡ true → matches qs b ≡ true → matches (ps ++ qs) (a ++ b) ≡ true
unfolding matches
append-in [] qs a b m e = rw (empty-nil a m) e
append-in (p ∷ ps) qs a b m e =
    let h = cut_out (accepts p) (matches ps) a m in
    rw (h.whole, append_assoc)
    (cut_in (accepts p) (matches (ps ++ qs)) h.left (h.right ++ b) h.first (append-in ps qs h.right b h.second e))

append-out : (ps qs : List Piece) (s : List ℕ) → matches (ps ++ qs) s ≡ true → Cut (matches ps) (matches qs) s
unfolding matches
append-out [] qs s m = record { left = []; right = s; whole = refl; first = refl; second = m }
append-out (p ∷ ps) qs s m =
    let h = cut_out (accepts p) (matches (ps ++ qs)) s m in
    let g = append-out ps qs h.right h.second in
    record {
      left = h.left ++ g.left;
      right = g.right;
      whole = h.whole ∙ ap (λ (t : List ℕ). h.left ++ t) g.whole ∙ sym (append_assoc h.left g.left g.right);
      first = cut_in (accepts p) (matches ps) h.left g.left h.first g.first;
      second = g.second;
    }

pub matches-append : (ps qs : List Piece) (s : List ℕ) → matches (ps ++ qs) s ≡ some_up_to (λ k. matches ps (take k s) && matches qs (drop k s)) (length s)
matches-append ps qs s =
    iff (matches (ps ++ qs) s) (some_up_to (λ k. matches ps (take k s) && matches qs (drop k s)) (length s))
    (λ m. let h = append-out ps qs s m in
    subst (λ (t : List ℕ). some_up_to (λ k. matches ps (take k t) && matches qs (drop k t)) (length t) ≡ true) (sym h.whole)
    (cut_in (matches ps) (matches qs) h.left h.right h.first h.second))
    (λ e. let h = cut_out (matches ps) (matches qs) s e in
    subst (λ (t : List ℕ). matches (ps ++ qs) t ≡ true) (sym h.whole)
    (append-in ps qs h.left h.right h.first h.second))

-- no part of the path is matched by the first pieces: the whole is not matched by all
pub matches-dead : (ps qs : List Piece) (s : List ℕ) → ((j : ℕ) → j ≤ length s → matches ps (take j s) ≡ false) → matches (ps ++ qs) s ≡ false
matches-dead ps qs s h = matches-append ps qs s ∙ some-none (λ k. matches ps (take k s) && matches qs (drop k s)) (length s) (λ k l. rw (h k l))

drop-some : (k : ℕ) (s : List ℕ) → k < length s → is_empty (drop k s) ≡ false
drop-some k [] h = absurd (not-suc-le-zero h)
drop-some zero (b ∷ s) h = refl
drop-some (suc k) (b ∷ s) h = drop-some k s (le_of_suc-le-suc h)

-- one piece alone
pub matches-only : (p : Piece) (s : List ℕ) → matches (p ∷ []) s ≡ accepts p s
unfolding matches
matches-only p s =
    some-last (λ k. accepts p (take k s) && is_empty (drop k s)) (length s) (λ k h. rw (drop-some k s h, and-false))
    ∙ rw (take-length, drop-length, and-true)

-- one piece more at the end
pub matches-snoc : (ps : List Piece) (p : Piece) (s : List ℕ) → matches (ps ++ (p ∷ [])) s ≡ some_up_to (λ k. matches ps (take k s) && accepts p (drop k s)) (length s)
matches-snoc ps p s =
    matches-append ps (p ∷ []) s
    ∙ some-cong (λ k. matches ps (take k s) && matches (p ∷ []) (drop k s)) (λ k. matches ps (take k s) && accepts p (drop k s)) (length s)
    (λ k h. rw (matches-only p (drop k s)))

-- ---- pieces and path read from their ends

every-reverse : (t : ℕ → Bool) (s : List ℕ) → every t (reverse s) ≡ every t s
unfolding every
every-reverse t [] = refl
every-reverse t (b ∷ s) = rw (reverse-cons b s) (every-snoc t (reverse s) b ∙ rw (every-reverse t s) (and_comm (every t s) (t b)))

single-reverse : (t : ℕ → Bool) (s : List ℕ) → single t s ≡ true → single t (reverse s) ≡ true
single-reverse t [] e = e
single-reverse t (b ∷ []) e = e
single-reverse t (b ∷ (c ∷ s)) e = absurd (false≢true (sym (and-false (t b)) ∙ e))

accepts-reverse : (p : Piece) (s : List ℕ) → accepts p s ≡ true → accepts p (reverse s) ≡ true
accepts-reverse p s e = go (repeats_of p) refl
  where
    go : (r : Bool) → repeats_of p ≡ r → accepts p (reverse s) ≡ true
    go true q = accepts-many p q (reverse s) ∙ every-reverse (takes_of p) s ∙ sym (accepts-many p q s) ∙ e
    go false q = accepts-one p q (reverse s) ∙ single-reverse (takes_of p) s (sym (accepts-one p q s) ∙ e)

reverse-in : (ps : List Piece) (s : List ℕ) → matches ps s ≡ true → matches (reverse ps) (reverse s) ≡ true
unfolding matches
reverse-in [] s m = rw (empty-nil s m)
reverse-in (p ∷ ps) s m =
    let h = cut_out (accepts p) (matches ps) s m in
    rw (h.whole, reverse-append, reverse-cons p ps)
    (append-in (reverse ps) (p ∷ []) (reverse h.right) (reverse h.left) (reverse-in ps h.right h.second)
    (matches-only p (reverse h.left) ∙ accepts-reverse p h.left h.first))

pub matches-reverse : (ps : List Piece) (s : List ℕ) → matches (reverse ps) (reverse s) ≡ matches ps s
matches-reverse ps s =
    iff (matches (reverse ps) (reverse s)) (matches ps s)
    (λ m. rw (reverse-reverse ps, reverse-reverse s) at (reverse-in (reverse ps) (reverse s) m))
    (reverse-in ps s)

-- the marks after a piece are right where those before it were
pub after-snoc : (ps : List Piece) (p : Piece) (s : List ℕ) (m : List Bool)
    → ((j : ℕ) → j ≤ length s → get_or m j false ≡ matches ps (take j s))
    → (i : ℕ) → i ≤ length s → after p s m i ≡ matches (ps ++ (p ∷ [])) (take i s)
unfolding after
after-snoc ps p s m h i l =
    some-cong (λ j. get_or m j false && accepts p (drop j (take i s))) (λ j. matches ps (take j (take i s)) && accepts p (drop j (take i s))) i
    (λ j k. rw (take-take j i s k, h j (le_trans k l)))
    ∙ ap (λ (n : ℕ). some_up_to (λ j. matches ps (take j (take i s)) && accepts p (drop j (take i s))) n) (sym (length-take-le i s l))
    ∙ sym (matches-snoc ps p (take i s))

-- ---- a step by one place

first-mark : (h r : Bool) → (h && r) ≡ mark_of r false h false false
first-mark true true = refl
first-mark true false = refl
first-mark false true = refl
first-mark false false = refl

after-zero : (p : Piece) (s : List ℕ) (m : List Bool) → after p s m 0 ≡ mark_of (repeats_of p) false (get_or m 0 false) false false
unfolding after
after-zero p s m = ap (λ (a : Bool). get_or m 0 false && a) (accepts-nil p) ∙ first-mark (get_or m 0 false) (repeats_of p)

pub first-right : (p : Piece) (s : List ℕ) (m : List Bool) (many v : Bool) → many ≡ repeats_of p → v ≡ mark_of many false (get_or m 0 false) false false → v ≡ after p s m 0
first-right p s m many v r e = e ∙ rw r (sym (after-zero p s m))

module _ (p : Piece) (s : List ℕ) (m : List Bool) (i : ℕ) (l : i < length s) where
  -- what stands between j and i + 1
  longer : (j : ℕ) → j ≤ i → drop j (take (suc i) s) ≡ drop j (take i s) ++ (get_or s i 0 ∷ [])
  longer j h =
      ap (drop j) (take-suc s i 0 l) ∙ drop-append-le j (take i s) (get_or s i 0 ∷ []) (simp length-take (omega arith))

  last-part : drop (suc i) (take (suc i) s) ≡ []
  last-part = slice_empty (suc i) s

  suc-many : repeats_of p ≡ true → after p s m (suc i) ≡ ((after p s m i && takes_of p (get_or s i 0)) || get_or m (suc i) false)
  unfolding after
  suc-many e =
      ap₂ ◌||◌
      (some-cong (λ j. get_or m j false && accepts p (drop j (take (suc i) s))) (λ j. get_or m j false && accepts p (drop j (take i s)) && takes_of p (get_or s i 0)) i
      (λ j h. rw (longer j h, accepts-many p e, accepts-many p e, every-snoc, ← and_assoc))
      ∙ some-and (λ j. get_or m j false && accepts p (drop j (take i s))) (takes_of p (get_or s i 0)) i)
      (rw (last-part, accepts-nil, e, and-true))

  suc_one : repeats_of p ≡ false → after p s m (suc i) ≡ (get_or m i false && takes_of p (get_or s i 0))
  unfolding after
  suc_one e =
      let low : some_up_to (λ j. get_or m j false && accepts p (drop j (take (suc i) s))) i ≡ (get_or m i false && takes_of p (get_or s i 0)) =
      some-last (λ j. get_or m j false && accepts p (drop j (take (suc i) s))) i
      (λ j h. rw (longer j (omega arith), accepts-one p e, single-snoc (takes_of p) (drop j (take i s)) (get_or s i 0) (simp (length-drop, length-take) (omega arith)), and-false))
      ∙ rw (longer i (le_refl i), accepts-one p e, slice_empty, and-true) in
      rw (last-part, accepts-nil, e, and-false, or-false) low

  pub after-suc : after p s m (suc i) ≡ mark_of (repeats_of p) (get_or m i false) (get_or m (suc i) false) (after p s m i) (takes_of p (get_or s i 0))
  after-suc = go (repeats_of p) refl
    where
      go : (r : Bool) → repeats_of p ≡ r → after p s m (suc i) ≡ mark_of r (get_or m i false) (get_or m (suc i) false) (after p s m i) (takes_of p (get_or s i 0))
      go true e = suc-many e
      go false e = suc_one e

  -- the mark that a turn of the loop of `step` finds
  pub mark-right : (next : List Bool) (many before here ok v : Bool)
      → many ≡ repeats_of p → before ≡ get_or m i false → here ≡ get_or m (i + 1) false → ok ≡ takes_of p (get_or s i 0) → get_or next i false ≡ after p s m i
      → v ≡ mark_of many before here (get_or next i false) ok
      → v ≡ after p s m (i + 1)
  mark-right next many before here ok v r b n t h e = e ∙ rw (r, b, n, t, h, add-one) (sym after-suc)

-- the marks before a piece, found again where the first of the new ones is set
pub marks-before : (m : List Bool) (v : Bool) → set (set m 0 v) 0 (get_or m 0 false) ≡ m
marks-before m v = set-set m 0 v (get_or m 0 false) ∙ set-get_or m 0 false

-- one mark more is right
pub more-marks : (f : ℕ → Bool) (next : List Bool) (i : ℕ) (v : Bool)
    → i + 1 < length next → ((k : ℕ) → k ≤ i → get_or next k false ≡ f k) → v ≡ f (i + 1)
    → (k : ℕ) → k ≤ i + 1 → get_or (set next (i + 1) v) k false ≡ f k
more-marks f next i v room ih e k h =
    ⊎_elim
    (λ q. subst (λ (j : ℕ). get_or (set next (i + 1) v) j false ≡ f j) (sym q) (get_or-set_same next (i + 1) v false room ∙ e))
    (λ b. get_or-set_other next (i + 1) k v false (λ q. omega arith) ∙ ih k (omega arith))
    (eq-or-lt_of_le h)

-- and so is whether some mark is set
pub more-alive : (f : ℕ → Bool) (alive v : Bool) (i : ℕ) → alive ≡ some_up_to f i → v ≡ f (i + 1) → (alive || v) ≡ some_up_to f (i + 1)
more-alive f alive v i p q = rw (p, q, add-one)

-- before the first piece, the place 0 alone is alive
pub first_marks : (n : ℕ) (s : List ℕ) (j : ℕ) → j ≤ length s → j < n → get_or (set (replicate n false) 0 true) j false ≡ matches [] (take j s)
unfolding matches
first_marks zero s j h l = absurd (not-suc-le-zero l)
first_marks (suc n) s zero h l = refl
first_marks (suc n) [] (suc j) h l = absurd (not-suc-le-zero h)
first_marks (suc n) (x ∷ s) (suc j) h l = get_or-replicate n j false false (le_of_suc-le-suc l)

-- ---- pieces by their codes

module _ (f : ℕ → Piece) (cs : List ℕ) (i : ℕ) (b : i < length cs) where
  one_more : map f (take (i + 1) cs) ≡ map f (take i cs) ++ (f (get_or cs i 0) ∷ [])
  one_more = rw (add-one, take-suc cs i 0 b) (map-append f (take i cs) (get_or cs i 0 ∷ []))

  -- the marks after one piece more
  pub more-pieces : (s : List ℕ) (m : List Bool)
      → ((j : ℕ) → j ≤ length s → get_or m j false ≡ matches (map f (take i cs)) (take j s))
      → (j : ℕ) → j ≤ length s → after (f (get_or cs i 0)) s m j ≡ matches (map f (take (i + 1) cs)) (take j s)
  more-pieces s m h j l = after-snoc (map f (take i cs)) (f (get_or cs i 0)) s m h j l ∙ rw one_more

  -- no place is alive after one piece more: the pieces do not match
  pub dead : (s : List ℕ) (m : List Bool)
      → ((j : ℕ) → j ≤ length s → get_or m j false ≡ matches (map f (take i cs)) (take j s))
      → some_up_to (after (f (get_or cs i 0)) s m) (length s) ≡ false
      → false ≡ matches (map f cs) s
  dead s m h e =
      let split : map f cs ≡ map f (take (i + 1) cs) ++ map f (drop (i + 1) cs) =
      ap (map f) (sym (take-append-drop (i + 1) cs)) ∙ map-append f (take (i + 1) cs) (drop (i + 1) cs) in
      sym
      (rw split
      (matches-dead (map f (take (i + 1) cs)) (map f (drop (i + 1) cs)) s
      (λ j l. sym (more-pieces s m h j l) ∙ none_of (after (f (get_or cs i 0)) s m) (length s) e j l)))
