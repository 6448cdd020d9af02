-- Demand 3 on rule lists, once for every family: the same rules in any order, deny rules added, allow rules added, rules that hit
-- nothing.
use Rattle.std.specs.Prelude.{if◌then◌else◌}
use mathlib.Core.Path.{◌≡◌, refl, sym, ap, ap₂, ◌∙◌}
use mathlib.Core.List.{List, [], ◌∷◌}
use mathlib.Core.Bool.{Bool, true, false, not, ◌||◌, ◌&&◌, false≢true}
use mathlib.Core.Logic.{⊎_elim, ◌⊎◌, inl, inr}
use borrow.Author.Tests.{not-true}
use Rattle.scan.specs.Bytes.{some, every}
use Rattle.scan.proofs.Bools.{and_left, and_right, or_cases, or_right}
use Rattle.family.specs.Members.{those, all, preferred, Single, Several, choice, is_single, is_several}
use Rattle.family.specs.Families.{Family, Part, allows, gathered, carrying, part, Equal, SameRules, Added, choice_of, granted, granted_one}
use Rattle.family.proofs.Lists.{some_in, in_some, some-shown, shown-same, those-without, Alike, alike, alike-those, added-those, added-gone, added-kept, added-grows}

-- ---- "the same rules, in whatever order and each however often"

module _ {R M : Type 0} (F : Family R M) (same : M → M → Bool) where
  pub gathered-same : (xs ys : List R) → Alike xs ys → Equal same (gathered F xs) (gathered F ys)
  unfolding gathered
  gathered-same xs ys a = record {
    allow = a (allows F);
    allow_audit = a (λ r. allows F r && F.audit r);
    deny = a F.deny;
    deny_audit = a (λ r. F.deny r && F.audit r);
    exact = shown-same (λ r. allows F r && F.exact r) F.shows same xs ys a;
    others = shown-same (λ r. allows F r && not (F.exact r)) F.shows same xs ys a;
  }

  pub part_same : (xs ys : List R) → SameRules xs ys → Equal same (part F xs) (part F ys)
  unfolding part
  part_same xs ys s = gathered-same (carrying F xs) (carrying F ys) (alike-those F.hits xs ys (alike xs ys s))

-- ---- rules that hit nothing

module _ {R M : Type 0} (F : Family R M) where
  -- added, wherever
  pub part-idle : {xs ys : List R} → Added (λ r. not (F.hits r)) xs ys → part F ys ≡ part F xs
  unfolding part
  part-idle a = ap (gathered F) (added-gone F.hits (λ r h. not-true (F.hits r) h) a)

  -- left out, all of a kind
  pub part_without : (idle : R → Bool) → ((r : R) → idle r ≡ true → F.hits r ≡ false) → (rs : List R) → part F (those (λ r. not (idle r)) rs) ≡ part F rs
  unfolding part
  part_without idle h rs = ap (gathered F) (those-without idle F.hits rs h)

-- ---- deny rules added

not_more : (a b : Bool) → (a ≡ true → b ≡ true) → not b ≡ true → not a ≡ true
not_more true true h e = e
not_more true false h e = absurd (false≢true (h refl))
not_more false b h e = refl

module _ {R M : Type 0} (F : Family R M) {xs ys : List R} (a : Added F.deny xs ys) where
  denied-not : (t : R → Bool) (r : R) → F.deny r ≡ true → (allows F r && t r) ≡ false
  denied-not t r e = rw e

  deny-chosen : (same : M → M → Bool) → choice_of same (gathered F ys) ≡ choice_of same (gathered F xs)
  unfolding gathered choice_of
  deny-chosen same =
      ap₂ (λ (e o : List R). choice same (preferred (all F.shows e) (all F.shows o)))
      (added-gone (λ r. allows F r && F.exact r) (denied-not F.exact) a)
      (added-gone (λ r. allows F r && not (F.exact r)) (denied-not (λ r. not (F.exact r))) a)

  -- "no bit .. is granted that wasn't before"
  pub gathered-deny : granted (gathered F ys) ≡ true → granted (gathered F xs) ≡ true
  unfolding gathered granted
  gathered-deny e =
      rw (sym (added-kept (allows F) (λ r h. rw h) a) ∙ and_left (some (allows F) ys) (not (some F.deny ys)) e)
      (not_more (some F.deny xs) (some F.deny ys) (added-grows F.deny a) (and_right (some (allows F) ys) (not (some F.deny ys)) e))

  -- ".. and no transition"
  pub gathered-deny-one : (same : M → M → Bool) → granted_one same (gathered F ys) ≡ true
      → (granted_one same (gathered F xs) ≡ true) × (choice_of same (gathered F xs) ≡ choice_of same (gathered F ys))
  unfolding granted_one
  gathered-deny-one same e =
      let one : is_single (choice_of same (gathered F xs)) ≡ true =
      ap is_single (sym (deny-chosen same)) ∙ and_right (granted (gathered F ys)) (is_single (choice_of same (gathered F ys))) e in
      (rw (gathered-deny (and_left (granted (gathered F ys)) (is_single (choice_of same (gathered F ys))) e), one), sym (deny-chosen same))

module _ {R M : Type 0} (F : Family R M) {xs ys : List R} (a : Added F.deny xs ys) where
  -- "With deny rules added, wherever, no bit and no transition is granted that wasn't before."
  pub deny-added : granted (part F ys) ≡ true → granted (part F xs) ≡ true
  unfolding part
  deny-added = gathered-deny F (added-those F.hits a)

  pub deny-added-one : (same : M → M → Bool) → granted_one same (part F ys) ≡ true
      → (granted_one same (part F xs) ≡ true) × (choice_of same (part F xs) ≡ choice_of same (part F ys))
  unfolding part
  deny-added-one = gathered-deny-one F (added-those F.hits a)

-- ---- allow rules added

abbrev pub any : {M : Type 0} → M → Bool
any m = true

-- something is shown
abbrev pub shown : {M : Type 0} → Part M → Bool
shown p = some any p.exact || some any p.others

pub choice-shown : {M : Type 0} (same : M → M → Bool) (exact others : List M)
    → (some any exact || some any others) ≡ (is_single (choice same (preferred exact others)) || is_several (choice same (preferred exact others)))
unfolding choice some
choice-shown same [] [] = refl
choice-shown same [] (m ∷ ms) = go (every (same m) ms)
  where
    go : (b : Bool) → true ≡ (is_single (if b then Single m else Several) || is_several (if b then Single m else Several))
    go true = refl
    go false = refl
choice-shown same (m ∷ ms) others = go (every (same m) ms)
  where
    go : (b : Bool) → true ≡ (is_single (if b then Single m else Several) || is_several (if b then Single m else Several))
    go true = refl
    go false = refl

-- what is shown is shown by an allow rule
pub shown-allowed : {R M : Type 0} (F : Family R M) (rs : List R) → shown (gathered F rs) ≡ true → (gathered F rs).allow ≡ true
unfolding gathered
shown-allowed {R} F rs e =
    ⊎_elim (by F.exact) (by (λ r. not (F.exact r)))
    (or_cases (some any (all F.shows (those (λ r. allows F r && F.exact r) rs))) (some any (all F.shows (those (λ r. allows F r && not (F.exact r)) rs))) e)
  where
    by : (t : R → Bool) → some any (all F.shows (those (λ r. allows F r && t r) rs)) ≡ true → some (allows F) rs ≡ true
    by t h =
        let w = some_in (λ r. (allows F r && t r) && some any (F.shows r)) rs (sym (some-shown (λ r. allows F r && t r) F.shows any rs) ∙ h) in
        in_some (allows F) w.0 rs w.1
        (and_left (allows F w.0) (t w.0) (and_left (allows F w.0 && t w.0) (some any (F.shows w.0)) w.2))

pub part_sound : {R M : Type 0} (F : Family R M) (rs : List R) → shown (part F rs) ≡ true → (part F rs).allow ≡ true
unfolding part
part_sound F rs = shown-allowed F (carrying F rs)

-- granted, with a single one or with a conflict
pub record Conflict {M : Type 0} (same : M → M → Bool) (p : Part M) : Type 0 where
  pub free : granted p ≡ true
  pub several : is_several (choice_of same p) ≡ true

pub shown-one : {M : Type 0} (same : M → M → Bool) (p : Part M) → granted p ≡ true → shown p ≡ true → (granted_one same p ≡ true) ⊎ Conflict same p
unfolding granted_one choice_of
shown-one same p g e =
    ⊎_elim (λ h. inl (ap₂ ◌&&◌ g h)) (λ h. inr (record { free = g; several = h }))
    (or_cases (is_single (choice_of same p)) (is_several (choice_of same p)) (sym (choice-shown same p.exact p.others) ∙ e))

one-shown : {M : Type 0} (same : M → M → Bool) (p : Part M) → granted_one same p ≡ true → (granted p ≡ true) × (shown p ≡ true)
unfolding granted_one choice_of
one-shown same p e = (
  and_left (granted p) (is_single (choice_of same p)) e,
  choice-shown same p.exact p.others ∙ rw (and_right (granted p) (is_single (choice_of same p)) e),
)

module _ {R M : Type 0} (F : Family R M) {xs ys : List R} (a : Added (allows F) xs ys) where
  -- "every granted bit but execute stays granted"
  pub gathered-allow : granted (gathered F xs) ≡ true → granted (gathered F ys) ≡ true
  unfolding gathered granted
  gathered-allow e =
      rw (added-grows (allows F) a (and_left (some (allows F) xs) (not (some F.deny xs)) e), added-kept F.deny (λ r h. not-true (F.deny r) h) a)
      (and_right (some (allows F) xs) (not (some F.deny xs)) e)

  gathered-shown : shown (gathered F xs) ≡ true → shown (gathered F ys) ≡ true
  unfolding gathered
  gathered-shown e =
      ⊎_elim (λ h. rw (more (λ r. allows F r && F.exact r) h))
      (λ h. or_right (some any (all F.shows (those (λ r. allows F r && F.exact r) ys))) (some any (all F.shows (those (λ r. allows F r && not (F.exact r)) ys)))
      (more (λ r. allows F r && not (F.exact r)) h))
      (or_cases (some any (all F.shows (those (λ r. allows F r && F.exact r) xs))) (some any (all F.shows (those (λ r. allows F r && not (F.exact r)) xs))) e)
    where
      more : (p : R → Bool) → some any (all F.shows (those p xs)) ≡ true → some any (all F.shows (those p ys)) ≡ true
      more p h = some-shown p F.shows any ys ∙ added-grows (λ r. p r && some any (F.shows r)) a (sym (some-shown p F.shows any xs) ∙ h)

  -- "execute may be lost only to a conflict, and its transition may change"
  pub gathered-allow-one : (same : M → M → Bool) → granted_one same (gathered F xs) ≡ true → (granted_one same (gathered F ys) ≡ true) ⊎ Conflict same (gathered F ys)
  gathered-allow-one same e =
      let w = one-shown same (gathered F xs) e in
      shown-one same (gathered F ys) (gathered-allow w.0) (gathered-shown w.1)

module _ {R M : Type 0} (F : Family R M) {xs ys : List R} (a : Added (allows F) xs ys) where
  -- "With allow rules added, wherever, every granted bit but execute stays granted; execute may be lost only to a conflict"
  pub allow-added : granted (part F xs) ≡ true → granted (part F ys) ≡ true
  unfolding part
  allow-added = gathered-allow F (added-those F.hits a)

  pub allow-added-one : (same : M → M → Bool) → granted_one same (part F xs) ≡ true → (granted_one same (part F ys) ≡ true) ⊎ Conflict same (part F ys)
  unfolding part
  allow-added-one = gathered-allow-one F (added-those F.hits a)
