-- Lists of rules: those of a kind, what they show, the same rules, rules added.
use mathlib.Core.Path.{◌≡◌, refl, sym, ap, ◌∙◌}
use mathlib.Core.List.{List, [], ◌∷◌, ◌++◌, append_assoc, Memᴰ}
use mathlib.Core.Bool.{Bool, true, false, not, ◌||◌, ◌&&◌, false≢true}
use mathlib.Core.Logic.{⊎_elim}
use Rattle.scan.specs.Bytes.{some}
use Rattle.scan.proofs.Laws.{some-append}
use Rattle.scan.proofs.Bools.{iff, or_cases, or_right}
use Rattle.family.specs.Members.{those, all, SameMembers}
use Rattle.family.specs.Families.{SameRules, Added, none, kept, added}

-- ---- one list followed by another

pub those-append : {R : Type 0} (p : R → Bool) (xs ys : List R) → those p (xs ++ ys) ≡ those p xs ++ those p ys
unfolding those
those-append p [] ys = refl
those-append {R} p (r ∷ xs) ys = go (p r) (those-append p xs ys)
  where
    go : (b : Bool) → those p (xs ++ ys) ≡ those p xs ++ those p ys
        → (elim b as (λ _. List R) [ true ↦ r ∷ those p (xs ++ ys) | false ↦ those p (xs ++ ys) ])
        ≡ (elim b as (λ _. List R) [ true ↦ r ∷ those p xs | false ↦ those p xs ]) ++ those p ys
    go true e = ap (λ (l : List R). r ∷ l) e
    go false e = e

pub all_append : {R M : Type 0} (f : R → List M) (xs ys : List R) → all f (xs ++ ys) ≡ all f xs ++ all f ys
unfolding all
all_append f [] ys = refl
all_append {R} {M} f (r ∷ xs) ys = ap (λ (l : List M). f r ++ l) (all_append f xs ys) ∙ sym (append_assoc (f r) (all f xs) (all f ys))

-- ---- tests

pub some_in : {R : Type 0} (t : R → Bool) (rs : List R) → some t rs ≡ true → (r : R) × Memᴰ r rs × (t r ≡ true)
unfolding some
some_in t [] e = absurd (false≢true e)
some_in t (x ∷ rs) e = ⊎_elim (λ h. (x, Memᴰ.head refl, h)) (λ h. let w = some_in t rs h in (w.0, Memᴰ.tail w.1, w.2)) (or_cases (t x) (some t rs) e)

pub in_some : {R : Type 0} (t : R → Bool) (r : R) (rs : List R) → Memᴰ r rs → t r ≡ true → some t rs ≡ true
unfolding some
in_some {R} t r rs (Memᴰ.head {x = x} {xs = xs} e) h = ap (λ (y : R). t y || some t xs) (sym e) ∙ rw h
in_some t r rs (Memᴰ.tail {x = x} {xs = xs} m) h = or_right (t x) (some t xs) (in_some t r xs m h)

pub some-those : {R : Type 0} (p t : R → Bool) (rs : List R) → some t (those p rs) ≡ some (λ r. p r && t r) rs
unfolding those some
some-those p t [] = refl
some-those {R} p t (r ∷ rs) = go (p r) (some-those p t rs)
  where
    go : (b : Bool) → some t (those p rs) ≡ some (λ r. p r && t r) rs
        → some t (elim b as (λ _. List R) [ true ↦ r ∷ those p rs | false ↦ those p rs ]) ≡ ((b && t r) || some (λ r. p r && t r) rs)
    go true e = ap (λ (x : Bool). t r || x) e
    go false e = e

pub some-all : {R M : Type 0} (f : R → List M) (t : M → Bool) (rs : List R) → some t (all f rs) ≡ some (λ r. some t (f r)) rs
unfolding all some
some-all f t [] = refl
some-all f t (r ∷ rs) = some-append t (f r) (all f rs) ∙ ap (λ (x : Bool). some t (f r) || x) (some-all f t rs)

-- what those of a kind show
pub some-shown : {R M : Type 0} (p : R → Bool) (f : R → List M) (t : M → Bool) (rs : List R) → some t (all f (those p rs)) ≡ some (λ r. p r && some t (f r)) rs
some-shown p f t rs = some-all f t (those p rs) ∙ some-those p (λ r. some t (f r)) rs

-- those that pass both tests
pub those-those : {R : Type 0} (p t : R → Bool) (rs : List R) → those t (those p rs) ≡ those (λ r. p r && t r) rs
unfolding those
those-those p t [] = refl
those-those {R} p t (r ∷ rs) = go (p r) (those-those p t rs)
  where
    go : (b : Bool) → those t (those p rs) ≡ those (λ r. p r && t r) rs
        → those t (elim b as (λ _. List R) [ true ↦ r ∷ those p rs | false ↦ those p rs ])
        ≡ (elim (b && t r) as (λ _. List R) [ true ↦ r ∷ those (λ r. p r && t r) rs | false ↦ those (λ r. p r && t r) rs ])
    go true e = ap (λ (l : List R). elim (t r) as (λ _. List R) [ true ↦ r ∷ l | false ↦ l ]) e
    go false e = e

-- leaving out some that don't pass the test
pub those-without : {R : Type 0} (p t : R → Bool) (rs : List R) → ((r : R) → p r ≡ true → t r ≡ false) → those t (those (λ r. not (p r)) rs) ≡ those t rs
those-without p t rs h = those-those (λ r. not (p r)) t rs ∙ (λ i. those (λ r. both (p r) (t r) (h r) i) rs)
  where
    both : (a b : Bool) → (a ≡ true → b ≡ false) → (not a && b) ≡ b
    both true b h = sym (h refl)
    both false b h = refl

-- ---- the same rules

-- two lists pass the same tests
abbrev pub Alike : {R : Type 0} → List R → List R → Type 0
Alike {R} xs ys = (t : R → Bool) → some t xs ≡ some t ys

pub alike : {R : Type 0} (xs ys : List R) → SameRules xs ys → Alike xs ys
alike xs ys s t =
    iff (some t xs) (some t ys) (λ e. let w = some_in t xs e in in_some t w.0 ys (s.0 w.0 w.1) w.2)
    (λ e. let w = some_in t ys e in in_some t w.0 xs (s.1 w.0 w.1) w.2)

pub alike-those : {R : Type 0} (p : R → Bool) (xs ys : List R) → Alike xs ys → Alike (those p xs) (those p ys)
alike-those p xs ys a t = some-those p t xs ∙ a (λ r. p r && t r) ∙ sym (some-those p t ys)

-- what those of a kind show has the same members
pub shown-same : {R M : Type 0} (p : R → Bool) (f : R → List M) (same : M → M → Bool) (xs ys : List R) → Alike xs ys → SameMembers same (all f (those p xs)) (all f (those p ys))
shown-same p f same xs ys a m = some-shown p f (same m) xs ∙ a (λ r. p r && some (same m) (f r)) ∙ sym (some-shown p f (same m) ys)

-- ---- rules added

module _ {R : Type 0} {p : R → Bool} where
  -- of those that pass a test
  pub added-those : {xs ys : List R} (t : R → Bool) → Added p xs ys → Added p (those t xs) (those t ys)
  unfolding those
  added-those t none = none
  added-those t (kept {xs = us} {ys = vs} r a) = go (t r) (added-those t a)
    where
      go : (b : Bool) → Added p (those t us) (those t vs)
          → Added p (elim b as (λ _. List R) [ true ↦ r ∷ those t us | false ↦ those t us ]) (elim b as (λ _. List R) [ true ↦ r ∷ those t vs | false ↦ those t vs ])
      go true a = kept r a
      go false a = a
  added-those t (added {xs = us} {ys = vs} r h a) = go (t r) (added-those t a)
    where
      go : (b : Bool) → Added p (those t us) (those t vs) → Added p (those t us) (elim b as (λ _. List R) [ true ↦ r ∷ those t vs | false ↦ those t vs ])
      go true a = added r h a
      go false a = a

  -- none of the added ones passes the test
  pub added-gone : {xs ys : List R} (t : R → Bool) → ((r : R) → p r ≡ true → t r ≡ false) → Added p xs ys → those t ys ≡ those t xs
  unfolding those
  added-gone t n none = refl
  added-gone t n (kept r a) = ap (λ (l : List R). elim (t r) as (λ _. List R) [ true ↦ r ∷ l | false ↦ l ]) (added-gone t n a)
  added-gone t n (added r h a) = rw (n r h, those) (added-gone t n a)

  pub added-kept : {xs ys : List R} (t : R → Bool) → ((r : R) → p r ≡ true → t r ≡ false) → Added p xs ys → some t ys ≡ some t xs
  unfolding some
  added-kept t n none = refl
  added-kept t n (kept r a) = ap (λ (b : Bool). t r || b) (added-kept t n a)
  added-kept t n (added r h a) = rw (n r h) (added-kept t n a)

  -- any test, with rules added
  pub added-grows : {xs ys : List R} (t : R → Bool) → Added p xs ys → some t xs ≡ true → some t ys ≡ true
  unfolding some
  added-grows t none e = e
  added-grows t (kept {xs = us} {ys = vs} r a) e = ⊎_elim (λ h. rw h) (λ h. or_right (t r) (some t vs) (added-grows t a h)) (or_cases (t r) (some t us) e)
  added-grows t (added {xs = us} {ys = vs} r h a) e = or_right (t r) (some t vs) (added-grows t a e)
