-- Demand 3, joining, once for every family: what is found of one list followed by another is what is found of both, joined; joining is
-- commutative, associative and idempotent, with what is found of no rule neutral; and it respects equality.
use mathlib.Core.Path.{◌≡◌, refl, sym, ap, ap₂, ◌∙◌}
use mathlib.Core.List.{List, [], ◌++◌, append_assoc, append-nil}
use mathlib.Core.Bool.{Bool, not, ◌||◌, ◌&&◌, or_comm, or_assoc, or_self, or-false}
use Rattle.scan.specs.Bytes.{some}
use Rattle.scan.proofs.Laws.{some-append}
use Rattle.family.specs.Members.{those, all, SameMembers}
use Rattle.family.specs.Families.{Family, Part, allows, gathered, carrying, part, join_part, nothing, Equal}
use Rattle.family.proofs.Lists.{those-append, all_append}

-- ---- "the findings of the one list followed by the other are both lists' findings joined"

module _ {R M : Type 0} (F : Family R M) (xs ys : List R) where
  shown-append : (p : R → Bool) → all F.shows (those p (xs ++ ys)) ≡ all F.shows (those p xs) ++ all F.shows (those p ys)
  shown-append p = ap (all F.shows) (those-append p xs ys) ∙ all_append F.shows (those p xs) (those p ys)

  pub gathered-append : gathered F (xs ++ ys) ≡ join_part (gathered F xs) (gathered F ys)
  unfolding gathered join_part
  gathered-append = λ i. record {
    allow = some-append (allows F) xs ys i;
    allow_audit = some-append (λ r. allows F r && F.audit r) xs ys i;
    deny = some-append F.deny xs ys i;
    deny_audit = some-append (λ r. F.deny r && F.audit r) xs ys i;
    exact = shown-append (λ r. allows F r && F.exact r) i;
    others = shown-append (λ r. allows F r && not (F.exact r)) i;
  }

pub part-append : {R M : Type 0} (F : Family R M) (xs ys : List R) → part F (xs ++ ys) ≡ join_part (part F xs) (part F ys)
unfolding part
part-append F xs ys = ap (gathered F) (those-append F.hits xs ys) ∙ gathered-append F (carrying F xs) (carrying F ys)

pub part_none : {R M : Type 0} (F : Family R M) → part F [] ≡ nothing
unfolding part gathered those all some
part_none F = refl

-- ---- joining

module _ {M : Type 0} where
  pub join-assoc : (p q r : Part M) → join_part (join_part p q) r ≡ join_part p (join_part q r)
  unfolding join_part
  join-assoc p q r = λ i. record {
    allow = or_assoc p.allow q.allow r.allow i;
    allow_audit = or_assoc p.allow_audit q.allow_audit r.allow_audit i;
    deny = or_assoc p.deny q.deny r.deny i;
    deny_audit = or_assoc p.deny_audit q.deny_audit r.deny_audit i;
    exact = append_assoc p.exact q.exact r.exact i;
    others = append_assoc p.others q.others r.others i;
  }

  pub join-left : (p : Part M) → join_part nothing p ≡ p
  unfolding join_part
  join-left p = refl

  pub join-right : (p : Part M) → join_part p nothing ≡ p
  unfolding join_part
  join-right p = λ i. record {
    allow = or-false p.allow i;
    allow_audit = or-false p.allow_audit i;
    deny = or-false p.deny i;
    deny_audit = or-false p.deny_audit i;
    exact = append-nil p.exact i;
    others = append-nil p.others i;
  }

module _ {M : Type 0} (same : M → M → Bool) where
  -- the members of two lists
  pub members-comm : (xs ys : List M) → SameMembers same (xs ++ ys) (ys ++ xs)
  members-comm xs ys m = some-append (same m) xs ys ∙ or_comm (some (same m) xs) (some (same m) ys) ∙ sym (some-append (same m) ys xs)

  pub members-self : (xs : List M) → SameMembers same (xs ++ xs) xs
  members-self xs m = some-append (same m) xs xs ∙ or_self (some (same m) xs)

  pub members-both : (xs ys us vs : List M) → SameMembers same xs ys → SameMembers same us vs → SameMembers same (xs ++ us) (ys ++ vs)
  members-both xs ys us vs a b m = some-append (same m) xs us ∙ ap₂ ◌||◌ (a m) (b m) ∙ sym (some-append (same m) ys vs)

  pub join-comm : (p q : Part M) → Equal same (join_part p q) (join_part q p)
  unfolding join_part
  join-comm p q = record {
    allow = or_comm p.allow q.allow;
    allow_audit = or_comm p.allow_audit q.allow_audit;
    deny = or_comm p.deny q.deny;
    deny_audit = or_comm p.deny_audit q.deny_audit;
    exact = members-comm p.exact q.exact;
    others = members-comm p.others q.others;
  }

  pub join-self : (p : Part M) → Equal same (join_part p p) p
  unfolding join_part
  join-self p = record {
    allow = or_self p.allow;
    allow_audit = or_self p.allow_audit;
    deny = or_self p.deny;
    deny_audit = or_self p.deny_audit;
    exact = members-self p.exact;
    others = members-self p.others;
  }

  pub join-equal : (p q r s : Part M) → Equal same p q → Equal same r s → Equal same (join_part p r) (join_part q s)
  unfolding join_part
  join-equal p q r s e f = record {
    allow = ap₂ ◌||◌ e.allow f.allow;
    allow_audit = ap₂ ◌||◌ e.allow_audit f.allow_audit;
    deny = ap₂ ◌||◌ e.deny f.deny;
    deny_audit = ap₂ ◌||◌ e.deny_audit f.deny_audit;
    exact = members-both p.exact q.exact r.exact s.exact e.exact f.exact;
    others = members-both p.others q.others r.others s.others e.others f.others;
  }
