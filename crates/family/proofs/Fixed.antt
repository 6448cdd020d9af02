-- Equal parts give the same: granted, recorded and what is chosen.
use Rattle.std.specs.Prelude.{if◌then◌else◌}
use mathlib.Core.Path.{◌≡◌, refl, sym, ap, ap₂, ◌∙◌, subst}
use mathlib.Core.List.{List, [], ◌∷◌}
use mathlib.Core.Bool.{Bool, true, false, not, ◌&&◌, false≢true}
use mathlib.Core.Logic.{⊎_elim}
use Rattle.scan.specs.Bytes.{some, every}
use Rattle.scan.proofs.Bools.{and_left, and_right, or_cases, or_right}
use Rattle.family.specs.Members.{SameMembers, preferred, Choice, Single, Several, choice, is_single}
use Rattle.family.specs.Families.{Part, Equal, choice_of, granted, granted_one, recorded}

pub granted-fixed : {M : Type 0} (same : M → M → Bool) (p q : Part M) → Equal same p q → granted p ≡ granted q
unfolding granted
granted-fixed same p q e = ap₂ (λ (a b : Bool). a && not b) e.allow e.deny

pub recorded-fixed : {M : Type 0} (same : M → M → Bool) (g : Bool) (p q : Part M) → Equal same p q → recorded g p ≡ recorded g q
unfolding recorded
recorded-fixed same g p q e = λ i. if g then e.allow_audit i else if e.deny i then e.deny_audit i else true

-- ---- what is chosen

-- a test of sameness
pub record Sameness {M : Type 0} (same : M → M → Bool) : Type 0 where
  pub eq : (m n : M) → same m n ≡ true → m ≡ n
  pub self : (m : M) → same m m ≡ true

module _ {M : Type 0} (same : M → M → Bool) (s : Sameness same) where
  -- a member of a list whose every element is m is m
  member-eq : (m n : M) (ms : List M) → every (same m) ms ≡ true → some (same n) ms ≡ true → n ≡ m
  unfolding every some
  member-eq m n [] a e = absurd (false≢true e)
  member-eq m n (k ∷ ms) a e =
      ⊎_elim (λ q. s.eq n k q ∙ sym (s.eq m k (and_left (same m k) (every (same m) ms) a)))
      (λ q. member-eq m n ms (and_right (same m k) (every (same m) ms) a) q)
      (or_cases (same n k) (some (same n) ms) e)

  -- where each member is m, every element is like m
  every-like : (m : M) (ms : List M) → ((n : M) → some (same n) ms ≡ true → n ≡ m) → every (same m) ms ≡ true
  unfolding every some
  every-like m [] h = refl
  every-like m (k ∷ ms) h =
      let e : k ≡ m = h k (rw (s.self k)) in
      let here : same m k ≡ true = subst (λ (x : M). same m x ≡ true) (sym e) (s.self m) in
      rw here (every-like m ms (λ n q. h n (or_right (same n k) (some (same n) ms) q)))

  one_only : (m n : M) (ms ns : List M) → SameMembers same (m ∷ ms) (n ∷ ns) → every (same m) ms ≡ true → (m ≡ n) × (every (same n) ns ≡ true)
  unfolding every some
  one_only m n ms ns h a =
      let all : every (same m) (m ∷ ms) ≡ true = rw (s.self m) a in
      let only : (k : M) → some (same k) (n ∷ ns) ≡ true → k ≡ m = λ k e. member-eq m k (m ∷ ms) all (h k ∙ e) in
      let e : n ≡ m = only n (rw (s.self n)) in
      let likes : every (same n) (n ∷ ns) ≡ true = every-like n (n ∷ ns) (λ k q. only k q ∙ sym e) in
      (sym e, and_right (same n n) (every (same n) ns) likes)

  pub choice-fixed : (xs ys : List M) → SameMembers same xs ys → choice same xs ≡ choice same ys
  unfolding choice some
  choice-fixed [] [] h = refl
  choice-fixed [] (n ∷ ns) h = absurd (false≢true (h n ∙ rw (s.self n)))
  choice-fixed (m ∷ ms) [] h = absurd (false≢true (sym (h m) ∙ rw (s.self m)))
  choice-fixed (m ∷ ms) (n ∷ ns) h = go (every (same m) ms) (every (same n) ns) refl refl
    where
      go : (a b : Bool) → every (same m) ms ≡ a → every (same n) ns ≡ b → ◌≡◌ {A = Choice M} (if a then Single m else Several) (if b then Single n else Several)
      go true true p q = ap Single (one_only m n ms ns h p).0
      go true false p q = absurd (false≢true (sym q ∙ (one_only m n ms ns h p).1))
      go false true p q = absurd (false≢true (sym p ∙ (one_only n m ns ms (λ k. sym (h k)) q).1))
      go false false p q = refl

  preferred-fixed : (xs ys us vs : List M) → SameMembers same xs ys → SameMembers same us vs → SameMembers same (preferred xs us) (preferred ys vs)
  unfolding some
  preferred-fixed [] [] us vs h t = t
  preferred-fixed [] (n ∷ ns) us vs h t = absurd (false≢true (h n ∙ rw (s.self n)))
  preferred-fixed (m ∷ ms) [] us vs h t = absurd (false≢true (sym (h m) ∙ rw (s.self m)))
  preferred-fixed (m ∷ ms) (n ∷ ns) us vs h t = h

  pub chosen-members : (xs ys us vs : List M) → SameMembers same xs ys → SameMembers same us vs → choice same (preferred xs us) ≡ choice same (preferred ys vs)
  chosen-members xs ys us vs h t = choice-fixed (preferred xs us) (preferred ys vs) (preferred-fixed xs ys us vs h t)

  pub chosen-fixed : (p q : Part M) → Equal same p q → choice_of same p ≡ choice_of same q
  unfolding choice_of
  chosen-fixed p q e = chosen-members p.exact q.exact p.others q.others e.exact e.others

  pub granted-one-fixed : (p q : Part M) → Equal same p q → granted_one same p ≡ granted_one same q
  unfolding granted_one
  granted-one-fixed p q e = ap₂ (λ (a : Bool) (c : Choice M). a && is_single c) (granted-fixed same p q e) (chosen-fixed p q e)
