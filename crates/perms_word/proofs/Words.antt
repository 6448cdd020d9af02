-- What a PERMS word says, at each step of its reader.
use Rattle.std.specs.Prelude.{if◌then◌else◌}
use Prim.Native.Nat.{ℕ, suc, ◌+◌, ◌-◌, ◌^◌, ◌<◌, ◌≤◌}
use Prim.Native.Char.{code}
use mathlib.Core.Path.{◌≡◌, refl, sym, ap, ◌∙◌}
use mathlib.Core.List.{List, [], ◌∷◌}
use mathlib.Core.Bool.{Bool, true, false, not, ◌&&◌, ◌||◌, false≢true}
use native.Mathlib.Nat.{zero-add}
use native.Mathlib.Numerals.{add-one}
use native.Mathlib.Omega.{arith}
use lib.Dec.{eqb}
use lib.Bits.{bit_or, or_lt, or_zero_r}
use lib.ListN.{length, get_or, take, drop, drop_of_length-le}
use lib.Seq.{drop-cons, drop-drop}
use borrow.Author.Tests.{eq-eqb, ne_eqb}
use Rattle.scan.specs.Bytes.{bytes, same, holds, some, every, run}
use Rattle.perms.specs.Sets.{has, perms}
use Rattle.modes.specs.Modes.{Row, modes, mode_in}
use Rattle.perms_word.specs.Words.{letters, perm_letter, other, carried, before_letters, carries, mode_part, named, with_mode, word_of}
use Rattle.perms.specs.declared.Perms.{Perms}
use Rattle.std.proofs.Common.{None}
use Rattle.scan.proofs.Bools.{and_left, and_right}
use Rattle.perms.proofs.Laws.{has-or, has-set, set-lt, ext, or-associative}
use Rattle.scan.proofs.Laws.{run-le, run_inside, every-from, same-eq}

-- a word carries what its first byte carries and what the others do
mix : (p q r s t : Bool) → ((p || q) || (r && (s || t))) ≡ (((p || false) || (r && (s || false))) || (q || (r && t)))
mix true q r s t = refl
mix false true true true t = refl
mix false true true false t = refl
mix false true false s t = refl
mix false false true true t = refl
mix false false true false t = refl
mix false false false s t = refl

pub carried-cons : (b : ℕ) (w : List ℕ) → carried (b ∷ w) ≡ bit_or (carried (b ∷ [])) (carried w)
unfolding carried some
carried-cons b w =
    ext 7 (carried (b ∷ w)) (bit_or (carried (b ∷ [])) (carried w)) (below (b ∷ w)) (or_lt 7 (carried (b ∷ [])) (carried w) (below (b ∷ [])) (below w))
    (λ k h. at (b ∷ w) k h ∙ mix (eqb (get_or letters k 0) b) (holds (get_or letters k 0) w) (eqb k 2) (eqb (code "w") b) (holds (code "w") w) ∙ sym (has-or (carried (b ∷ [])) (carried w) k ∙ both k h))
  where
    bit : List ℕ → ℕ → Bool
    bit v k = holds (get_or letters k 0) v || (eqb k 2 && holds (code "w") v)

    below : (v : List ℕ) → carried v < 2 ^ 7
    below v = set-lt 7 (bit v)

    at : (v : List ℕ) (k : ℕ) → k < 7 → has (carried v) k ≡ bit v k
    at v k h = has-set 7 (bit v) k h

    both : (k : ℕ) → k < 7 → (has (carried (b ∷ [])) k || has (carried w) k) ≡ (bit (b ∷ []) k || bit w k)
    both k h = rw (at (b ∷ []) k h, at w k h)

-- a set with what is left of a word: one byte more, the end
module _ (n : ℕ) (w : List ℕ) (i : ℕ) where
  pub carried-more : i < length w → bit_or (bit_or n (carried (get_or w i 0 ∷ []))) (carried (drop (i + 1) w)) ≡ bit_or n (carried (drop i w))
  carried-more h = or-associative n (carried (get_or w i 0 ∷ [])) (carried (drop (i + 1) w)) ∙ ap (bit_or n) (rw (add-one, drop-cons w i 0) (sym (carried-cons (get_or w i 0) (drop (suc i) w))))

  pub carried-end : length w ≤ i → bit_or n (carried (drop i w)) ≡ n
  unfolding carried some
  carried-end h = rw (drop_of_length-le w h) (or_zero_r n)

-- a byte that is no letter and no x carries nothing
pub carried_other : (b : ℕ) → (b ≡ 114 → ⊥) → (b ≡ 119 → ⊥) → (b ≡ 97 → ⊥) → (b ≡ 109 → ⊥) → (b ≡ 108 → ⊥) → (b ≡ 107 → ⊥) → (b ≡ 120 → ⊥) → carried (b ∷ []) ≡ 0
unfolding carried some letters bytes
carried_other b r w a m l k x = rw (no 114 r, no 119 w, no 97 a, no 109 m, no 108 l, no 107 k, no 120 x)
  where
    no : (n : ℕ) → (b ≡ n → ⊥) → eqb n b ≡ false
    no n h = ne_eqb n b (λ e. h (sym e))

-- the mode part: none, a bare x, another one in a rule that denies, one in a rule that allows
module _ (p : Perms) where
  pub mode-none : (deny : Bool) (m : List ℕ) → length m ≡ 0 → with_mode deny p m ≡ carries p None
  unfolding with_mode
  mode-none deny [] e = refl
  mode-none deny (b ∷ m) e = absurd (omega arith)

  pub mode-bare : (m : List ℕ) → (length m ≡ 0 → ⊥) → same m (bytes "x") ≡ true → with_mode true p m ≡ carries p None
  unfolding with_mode
  mode-bare [] n e = refl
  mode-bare (b ∷ m) n e = rw (e, with_mode)

  pub mode-denied : (m : List ℕ) → (length m ≡ 0 → ⊥) → same m (bytes "x") ≡ false → with_mode true p m ≡ None
  unfolding with_mode
  mode-denied [] n e = absurd (n refl)
  mode-denied (b ∷ m) n e = rw (e, with_mode)

  pub mode-allowed : (m : List ℕ) → (length m ≡ 0 → ⊥) → with_mode false p m ≡ named p (mode_in modes m)
  unfolding with_mode
  mode-allowed [] n = absurd (n refl)
  mode-allowed (b ∷ m) n = refl

-- the word: empty, refused by a rule on its letters, or told by its mode part
pub word-empty : (deny : Bool) (w : List ℕ) → length w ≡ 0 → word_of deny w ≡ None
unfolding word_of
word-empty deny [] e = refl
word-empty deny (b ∷ w) e = absurd (omega arith)

abbrev both : List ℕ → Bool
both w = holds (code "w") w && holds (code "a") w

word-refused : (deny : Bool) (w : List ℕ) → both w ≡ true → word_of deny w ≡ None
unfolding word_of
word-refused deny [] e = refl
word-refused deny (b ∷ w) e = rw (e, word_of)

word_good : (deny : Bool) (w : List ℕ) → (length w ≡ 0 → ⊥) → both w ≡ false → word_of deny w ≡ with_mode deny (perms (carried w)) (mode_part w)
unfolding word_of
word_good deny [] n e = absurd (n refl)
word_good deny (b ∷ w) n e = rw (e, word_of)

-- bytes that are no letters and then letters alone: the first are what stands before the letters; else a letter is among them
module _ (b : ℕ) (l : List ℕ) where
  abbrev rest : Bool → List ℕ
  rest x = drop (elim (not x) as (λ _. ℕ) [ true ↦ suc (run other l) | false ↦ 0 ]) (b ∷ l)

  abbrev kept : Bool → List ℕ
  kept x = if x && every perm_letter l then [] else b ∷ before_letters l

before-fits : (l : List ℕ) → every perm_letter (drop (run other l) l) ≡ true → before_letters l ≡ take (run other l) l
unfolding before_letters every run
before-fits [] e = refl
before-fits (b ∷ l) e = go (perm_letter b) refl (λ h. before-fits l h) e
  where
    go : (x : Bool) → perm_letter b ≡ x → (every perm_letter (drop (run other l) l) ≡ true → before_letters l ≡ take (run other l) l) → every perm_letter (rest b l x) ≡ true →
        kept b l x ≡ take (elim (not x) as (λ _. ℕ) [ true ↦ suc (run other l) | false ↦ 0 ]) (b ∷ l)
    go true q f h = let k : every perm_letter l ≡ true = rw q at h in rw k
    go false q f h = ap (λ (m : List ℕ). b ∷ m) (f h)

before-letter : (l : List ℕ) → every perm_letter (drop (run other l) l) ≡ false → some perm_letter (before_letters l) ≡ true
unfolding before_letters every run some
before-letter [] e = absurd (false≢true (sym e))
before-letter (b ∷ l) e = go (perm_letter b) refl (λ h. before-letter l h) e
  where
    go : (x : Bool) → perm_letter b ≡ x → (every perm_letter (drop (run other l) l) ≡ false → some perm_letter (before_letters l) ≡ true) → every perm_letter (rest b l x) ≡ false →
        some perm_letter (kept b l x) ≡ true
    go true q f h = let k : every perm_letter l ≡ false = rw q at h in rw (k, q)
    go false q f h = rw q (f h)

-- no mode has a letter in it
no_letter : Row → Bool
no_letter r = not (some perm_letter (bytes r.word))

modes-none : every no_letter modes ≡ true
unfolding no_letter every some bytes letters
modes-none = refl

lettered : (m v : List ℕ) → some perm_letter m ≡ true → not (some perm_letter v) ≡ true → same m v ≡ false
lettered m v h k = go (same m v) refl
  where
    go : (x : Bool) → same m v ≡ x → x ≡ false
    go true q = absurd (false≢true (sym (ap (λ (l : List ℕ). not (some perm_letter l)) (sym (same-eq m v q)) ∙ ap not h) ∙ k))
    go false q = refl

mode-letter : (rs : List Row) (m : List ℕ) → every no_letter rs ≡ true → some perm_letter m ≡ true → mode_in rs m ≡ None
unfolding mode_in every no_letter
mode-letter [] m e h = refl
mode-letter (r ∷ rs) m e h = rw (lettered m (bytes r.word) h (and_left (no_letter r) (every no_letter rs) e), mode_in) (mode-letter rs m (and_right (no_letter r) (every no_letter rs) e) h)

no_mode : (p : Perms) (deny : Bool) (m : List ℕ) → some perm_letter m ≡ true → with_mode deny p m ≡ None
unfolding with_mode some bytes letters
no_mode p deny [] h = absurd (false≢true h)
no_mode p true (b ∷ m) h = rw (lettered (b ∷ m) (bytes "x") h refl, with_mode)
no_mode p false (b ∷ m) h = rw (mode-letter modes (b ∷ m) modes-none h)

-- the places that the reader finds: where the mode starts and ends, and whether letters alone come after it
module _ (deny : Bool) (w : List ℕ) (a e : ℕ) (starts : a ≡ 0 + run perm_letter (drop 0 w)) (ends : e ≡ a + run other (drop a w)) where
  start-at : a ≡ run perm_letter w
  start-at = starts ∙ zero-add (run perm_letter w)

  inside : e ≤ length w
  inside = rw ends (run_inside other w a (rw start-at (run-le perm_letter w)))

  after : every perm_letter (drop (run other (drop a w)) (drop a w)) ≡ eqb (e + run perm_letter (drop e w)) (length w)
  after = rw (drop-drop, ← ends) (every-from perm_letter w e inside)

  pub word-both : {p q : Bool} → p ≡ holds (code "w") w → q ≡ holds (code "a") w → (p && q) ≡ true → word_of deny w ≡ None
  word-both f g h = word-refused deny w (rw (← f, ← g) h)

  pub word-tail : (length w ≡ 0 → ⊥) → (e + run perm_letter (drop e w) ≡ length w → ⊥) → word_of deny w ≡ None
  word-tail n h = go (both w) refl
    where
      go : (x : Bool) → both w ≡ x → word_of deny w ≡ None
      go true q = word-refused deny w q
      go false q = word_good deny w n q ∙ no_mode (perms (carried w)) deny (mode_part w) (rw (← start-at) (before-letter (drop a w) (after ∙ ne_eqb _ _ h)))

  pub word-told :
      {p q : Bool}
      → (length w ≡ 0 → ⊥)
      → e + run perm_letter (drop e w) ≡ length w
      → p ≡ holds (code "w") w
      → q ≡ holds (code "a") w
      → (p && q) ≡ false
      → word_of deny w ≡ with_mode deny (perms (carried w)) (take (e - a) (drop a w))
  word-told n h f g k =
      let m : e - a ≡ run other (drop a w) = omega arith in
      word_good deny w n (rw (← f, ← g) k) ∙ ap (with_mode deny (perms (carried w))) (rw (← start-at, m) (before-fits (drop a w) (after ∙ eq-eqb _ _ h)))
