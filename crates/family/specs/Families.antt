-- What is found of one permission, for every kind of rule.
use Rattle.std.specs.Prelude.{◌≡◌, Bool, true, false, not, ◌||◌, ◌&&◌, if◌then◌else◌}
use mathlib.Core.List.{List, [], ◌∷◌, ◌++◌, Memᴰ}
use Rattle.scan.specs.Bytes.{some}
use Rattle.family.specs.Members.{those, all, SameMembers, preferred, Choice, choice, is_single}

-- one kind of rule under one request, as one permission sees it; R: its rules, M: what they show besides
pub record Family (R M : Type 0) : Type 0 where
  -- the rule matches the request and carries the permission
  pub hits : R → Bool
  pub deny : R → Bool
  pub audit : R → Bool
  -- its pattern matches exactly
  pub exact : R → Bool
  -- what it shows besides: a file rule its transition, for x
  pub shows : R → List M

-- what is found of one permission: document 01's six, a bit for each of the four sets
pub record Part (M : Type 0) : Type 0 where
  pub allow : Bool
  pub allow_audit : Bool
  pub deny : Bool
  pub deny_audit : Bool
  pub exact : List M
  pub others : List M

-- a rule that does not deny allows
abbrev pub allows : {R M : Type 0} → Family R M → R → Bool
allows F r = not (F.deny r)

-- "bits carried by matching allow rules; those among them from audit rules; bits carried by matching deny rules; those from audit
-- rules; the set of transitions of exact matches; the same of other matches": of one permission, by the rules that count for it
unfoldable pub gathered : {R M : Type 0} → Family R M → List R → Part M
gathered F rs =
    record {
      allow = some (allows F) rs;
      allow_audit = some (λ r. allows F r && F.audit r) rs;
      deny = some F.deny rs;
      deny_audit = some (λ r. F.deny r && F.audit r) rs;
      exact = all F.shows (those (λ r. allows F r && F.exact r) rs);
      others = all F.shows (those (λ r. allows F r && not (F.exact r)) rs);
    }

-- the rules that match the request and carry the permission
abbrev pub carrying : {R M : Type 0} → Family R M → List R → List R
carrying F rs = those F.hits rs

-- what is found of the permission
unfoldable pub part : {R M : Type 0} → Family R M → List R → Part M
part F rs = gathered F (carrying F rs)

-- "Joining two findings unites each of these six with its counterpart."
unfoldable pub join_part : {M : Type 0} → Part M → Part M → Part M
join_part p q =
    record {
      allow = p.allow || q.allow;
      allow_audit = p.allow_audit || q.allow_audit;
      deny = p.deny || q.deny;
      deny_audit = p.deny_audit || q.deny_audit;
      exact = p.exact ++ q.exact;
      others = p.others ++ q.others;
    }

-- what no rule gives
abbrev pub nothing : {M : Type 0} → Part M
nothing = record { allow = false; allow_audit = false; deny = false; deny_audit = false; exact = []; others = [] }

-- ---- equal parts

-- "Findings are equal when the four bit sets are and both transition sets have the same members."
pub record Equal {M : Type 0} (same : M → M → Bool) (p q : Part M) : Type 0 where
  pub allow : p.allow ≡ q.allow
  pub allow_audit : p.allow_audit ≡ q.allow_audit
  pub deny : p.deny ≡ q.deny
  pub deny_audit : p.deny_audit ≡ q.deny_audit
  pub exact : SameMembers same p.exact q.exact
  pub others : SameMembers same p.others q.others

-- ---- granted and recorded, of one permission

-- what is chosen
unfoldable pub choice_of : {M : Type 0} → (M → M → Bool) → Part M → Choice M
choice_of same p = choice same (preferred p.exact p.others)

-- "allowed and not denied"
unfoldable pub granted : {M : Type 0} → Part M → Bool
granted p = p.allow && not p.deny

-- "x only with a single transition"
unfoldable pub granted_one : {M : Type 0} → (M → M → Bool) → Part M → Bool
granted_one same p = granted p && is_single (choice_of same p)

-- "granted bits with an audit allow; refused bits not denied by a rule, conflict included; denied bits with an audit deny"
unfoldable pub recorded : {M : Type 0} → (granted : Bool) → Part M → Bool
recorded g p = if g then p.allow_audit else if p.deny then p.deny_audit else true

-- ---- two lists of rules

-- "the same rules, in whatever order and each however often": a rule stands in one exactly when it stands in the other
abbrev pub SameRules : {R : Type 0} → List R → List R → Type 0
SameRules {R} xs ys = ((r : R) → Memᴰ r xs → Memᴰ r ys) × ((r : R) → Memᴰ r ys → Memᴰ r xs)

-- rules of the kind p added, wherever, "the others stay in their order"
pub data Added {R : Type 0} (p : R → Bool) : List R → List R → Type 0 where
  none : Added p [] []
  kept : {xs ys : List R} (r : R) → Added p xs ys → Added p (r ∷ xs) (r ∷ ys)
  added : {xs ys : List R} (r : R) → p r ≡ true → Added p xs ys → Added p xs (r ∷ ys)
