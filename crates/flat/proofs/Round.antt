-- A record that is written can be read back, and leaves the others and the head as they were.
use Rattle.std.proofs.Common.{Option, None, Some}
use Prim.Native.Nat.{ℕ, zero, suc, ◌+◌, ◌*◌, ◌-◌, ◌%◌, ◌≤◌, ◌<◌}
use mathlib.Core.Path.{◌≡◌, refl, sym, ap, ap₂, ◌∙◌}
use mathlib.Core.List.{List, [], ◌∷◌, ◌++◌}
use mathlib.Core.Bool.{Bool, true, false}
use native.Mathlib.Omega.{arith}
use lib.ListN.{length, get_or, take, drop, length-take, get_or-append}
use lib.Seq.{paste, drop-paste, length_paste_head, get_or-append-add, get_or-drop, get_or-take}
use Rattle.modes.specs.declared.Kind.{Kind}
use Rattle.modes.specs.declared.Kind.TheVariants as kind
use Rattle.modes.specs.declared.Fallback.{Fallback}
use Rattle.modes.specs.declared.Fallback.TheVariants as fallback
use Rattle.modes.specs.declared.Mode.{Mode}
use Rattle.entries.specs.declared.Record.{Record}
use Rattle.flat.specs.Layout.{bit, encoded, front_at, qualifiers, record_at, records_from, rule_at, transition_in, transition_number}

-- ---- what is no number by itself

module _ (a d o : Bool) where
  abbrev qualified : Type 0
  qualified = (bit 1 (qualifiers a d o) ≡ a) × ((bit 2 (qualifiers a d o) ≡ d) × (bit 4 (qualifiers a d o) ≡ o))

pub qualifiers-back : (a d o : Bool) → qualified a d o
qualifiers-back false false false = (refl, (refl, refl))
qualifiers-back false false true = (refl, (refl, refl))
qualifiers-back false true false = (refl, (refl, refl))
qualifiers-back false true true = (refl, (refl, refl))
qualifiers-back true false false = (refl, (refl, refl))
qualifiers-back true false true = (refl, (refl, refl))
qualifiers-back true true false = (refl, (refl, refl))
qualifiers-back true true true = (refl, (refl, refl))

abbrev mode : Kind → Fallback → Bool → Option Mode
mode k f s = Some (record { kind = k; fallback = f; scrubs = s })

abbrev Back : Option Mode → Type 0
Back t = transition_in (transition_number t) ≡ t

mode-back : (k : Kind) (f : Fallback) (s : Bool) → Back (mode k f s)
mode-back kind.Unconfined fallback.Absent false = refl
mode-back kind.Unconfined fallback.Absent true = refl
mode-back kind.Unconfined fallback.Inherit false = refl
mode-back kind.Unconfined fallback.Inherit true = refl
mode-back kind.Unconfined fallback.Unconfined false = refl
mode-back kind.Unconfined fallback.Unconfined true = refl
mode-back kind.Profile fallback.Absent false = refl
mode-back kind.Profile fallback.Absent true = refl
mode-back kind.Profile fallback.Inherit false = refl
mode-back kind.Profile fallback.Inherit true = refl
mode-back kind.Profile fallback.Unconfined false = refl
mode-back kind.Profile fallback.Unconfined true = refl
mode-back kind.Child fallback.Absent false = refl
mode-back kind.Child fallback.Absent true = refl
mode-back kind.Child fallback.Inherit false = refl
mode-back kind.Child fallback.Inherit true = refl
mode-back kind.Child fallback.Unconfined false = refl
mode-back kind.Child fallback.Unconfined true = refl
mode-back kind.Inherit fallback.Absent false = refl
mode-back kind.Inherit fallback.Absent true = refl
mode-back kind.Inherit fallback.Inherit false = refl
mode-back kind.Inherit fallback.Inherit true = refl
mode-back kind.Inherit fallback.Unconfined false = refl
mode-back kind.Inherit fallback.Unconfined true = refl

pub transition-back : (t : Option Mode) → Back t
transition-back None = refl
transition-back (Some m) = mode-back m.kind m.fallback m.scrubs

-- ---- what is pasted, and what stands before it

pub paste-within : (m s : List ℕ) (at n k : ℕ) → at ≤ length m → n ≤ length s → k < n → get_or (paste m at s n) (at + k) 0 ≡ get_or s k 0
paste-within m s at n k h g l =
    let e : length (take at m) ≡ at = length-take at m ∙ omega arith in
    let f : at + k < length (take at m ++ take n s) = omega (arith, length_paste_head m at s n h g) in
    get_or-append (take at m ++ take n s) (drop (at + n) m) 0 (at + k) f
    ∙ ap (λ (j : ℕ). get_or (take at m ++ take n s) (j + k) 0) (sym e)
    ∙ get_or-append-add (take at m) (take n s) k 0
    ∙ get_or-take n s k 0 l

pub paste-before : (m s : List ℕ) (at n k : ℕ) → at ≤ length m → n ≤ length s → k < at → get_or (paste m at s n) k 0 ≡ get_or m k 0
paste-before m s at n k h g l =
    let e : k < length (take at m) = omega (arith, length-take at m) in
    let f : k < length (take at m ++ take n s) = omega (arith, length_paste_head m at s n h g) in
    get_or-append (take at m ++ take n s) (drop (at + n) m) 0 k f ∙ get_or-append (take at m) (take n s) 0 k e ∙ get_or-take at m k 0 l

pub paste-behind : (m s : List ℕ) (at n k : ℕ) → at ≤ length m → n ≤ length s → at + n ≤ k → get_or (paste m at s n) k 0 ≡ get_or m k 0
paste-behind m s at n k h g l =
    let e : at + n + (k - (at + n)) ≡ k = omega arith in
    ap (λ (j : ℕ). get_or (paste m at s n) j 0) (sym e)
    ∙ sym (get_or-drop (at + n) (paste m at s n) (k - (at + n)) 0)
    ∙ ap (λ (l : List ℕ). get_or l (k - (at + n)) 0) (drop-paste m at s n h g)
    ∙ get_or-drop (at + n) m (k - (at + n)) 0
    ∙ ap (λ (j : ℕ). get_or m j 0) e

-- ---- a record

-- a record is made of its twelve numbers
pub record_same : (m m' : List ℕ) (at at' : ℕ) → ((k : ℕ) → k < 12 → get_or m (at + k) 0 ≡ get_or m' (at' + k) 0) → record_at m at ≡ record_at m' at'
unfolding rule_at front_at
record_same m m' at at' h =
    let e : at + 0 ≡ at = omega arith in
    let f : at' + 0 ≡ at' = omega arith in
    let z : get_or m at 0 ≡ get_or m' at' 0 = rw (e, f) at (h 0 (omega arith)) in
    rw (z, h 1 (omega arith), h 2 (omega arith), h 3 (omega arith), h 4 (omega arith), h 5 (omega arith), h 6 (omega arith), h 7 (omega arith), h 8 (omega arith), h 9 (omega arith), h 10 (omega arith), h 11 (omega arith))

encoded-back : (r : Record) → r.rule.perms.0 < 256 → record_at (encoded r) 0 ≡ r
unfolding encoded rule_at front_at
encoded-back r h =
    let p : r.rule.perms.0 % 256 ≡ r.rule.perms.0 = omega arith in
    let q = qualifiers-back r.rule.audit r.rule.deny r.rule.owner in
    rw (p, q.0, q.1.0, q.1.1, transition-back r.rule.transition)

-- a record with a byte of permissions, written where it fits, is read back
pub record-back : (m : List ℕ) (at : ℕ) (r : Record) → at + 12 ≤ length m → r.rule.perms.0 < 256 → record_at (paste m at (encoded r) 12) at ≡ r
record-back m at r h g =
    let n : 12 ≤ length (encoded r) = unfold encoded in omega arith in
    record_same (paste m at (encoded r) 12) (encoded r) at 0
    (λ k l. paste-within m (encoded r) at 12 k (omega arith) n l ∙ ap (λ (j : ℕ). get_or (encoded r) j 0) (omega arith))
    ∙ encoded-back r g

-- and leaves the others as they were, those before it and those behind it
module _ (m : List ℕ) (i j : ℕ) (r : Record) (room : 1256 + 12 * j ≤ length m) where
  abbrev stored : List ℕ
  stored = paste m (1256 + 12 * j) (encoded r) 12

  long : 12 ≤ length (encoded r)
  long = unfold encoded in omega arith

  pub record-before : i < j → record_at stored (1256 + 12 * i) ≡ record_at m (1256 + 12 * i)
  record-before h =
      record_same stored m (1256 + 12 * i) (1256 + 12 * i)
      (λ k l. paste-before m (encoded r) (1256 + 12 * j) 12 (1256 + 12 * i + k) room long (omega (arith, h, l)))

  pub record-behind : j < i → record_at stored (1256 + 12 * i) ≡ record_at m (1256 + 12 * i)
  record-behind h =
      record_same stored m (1256 + 12 * i) (1256 + 12 * i)
      (λ k l. paste-behind m (encoded r) (1256 + 12 * j) 12 (1256 + 12 * i + k) room long (omega (arith, h, l)))

-- records are as they were where the numbers before their end are
pub records-same : (k : ℕ) (m m' : List ℕ) (at : ℕ) → ((j : ℕ) → j < at + 12 * k → get_or m j 0 ≡ get_or m' j 0) → records_from k m at ≡ records_from k m' at
unfolding records_from
records-same zero m m' at h = refl
records-same (suc k) m m' at h =
    ap₂ (λ (r : Record) (l : List Record). r ∷ l) (record_same m m' at at (λ j l. h (at + j) (omega arith)))
    (records-same k m m' (at + 12) (λ j l. h j (omega arith)))

-- one record more
pub records-snoc : (k : ℕ) (m : List ℕ) (at : ℕ) → records_from (suc k) m at ≡ records_from k m at ++ record_at m (at + 12 * k) ∷ []
unfolding records_from
records-snoc zero m at = let e : at + 12 * 0 ≡ at = omega arith in rw e
records-snoc (suc k) m at =
    let e : at + 12 + 12 * k ≡ at + 12 * suc k = omega arith in
    ap (λ (l : List Record). record_at m at ∷ l) (records-snoc k m (at + 12) ∙ ap (λ (j : ℕ). records_from k m (at + 12) ++ record_at m j ∷ []) e)
