-- Demand 3 on the answers to file requests, from the laws of one permission.
use Rattle.std.specs.Prelude.{if◌then◌else◌}
use Prim.Native.Nat.{ℕ, ◌<◌}
use native.Mathlib.Omega.{arith}
use mathlib.Core.Path.{◌≡◌, refl, sym, ap, ap₂, ◌∙◌, subst, subst₂}
use mathlib.Core.List.{List}
use mathlib.Core.Bool.{Bool, true, false, not, ◌||◌, ◌&&◌, false≢true}
use mathlib.Core.Logic.{⊎_elim, ◌⊎◌, inl, inr}
use lib.Dec.{eqb}
use borrow.Author.Tests.{eqb-true, ne_eqb, not-true}
use Rattle.scan.specs.Bytes.{every, some}
use Rattle.scan.proofs.Bools.{and_left, and_right}
use Rattle.perms.specs.Sets.{has, set_of}
use Rattle.perms.proofs.Laws.{has-set}
use Rattle.family.specs.Members.{those, all, SameMembers, Choice, None, Single, Several, is_single, is_several}
use Rattle.family.specs.Families.{Part, choice_of, granted, granted_one, SameRules, Added}
use Rattle.family.proofs.Lists.{Alike, alike, alike-those, shown-same}
use Rattle.family.proofs.Orders.{shown, choice-shown, part_sound, Conflict, deny-added, deny-added-one, allow-added, allow-added-one}
use Rattle.modes.specs.declared.Execute.TheVariants as execute
use Rattle.pattern.specs.Expansions.{Variable}
use Rattle.rule.specs.Rules.{Rule}
use Rattle.findings.specs.Findings.{Access, Move, applies, allows, audited, denies, exactly, otherwise, bits, move_by, moves, findings, same_move, Equal}
use Rattle.answer.specs.Answers.{x, chosen, is_mode, named_by, target_of, answer_from}
use Rattle.answer.specs.declared.Answer.{Answer}
use Rattle.laws.specs.Files.{files, Parts, parts_of, executed, granted_at, answered}
use Rattle.laws.specs.Whole.{whole}
use Rattle.laws.specs.Orders.{NoMore, NoLess}
use Rattle.laws.proofs.Fixed.{answer-fixed}
use Rattle.laws.proofs.Files.{by_parts}

-- ---- the same rules

module _ (vs : List Variable) (a : Access) where
  -- whatever the rules are
  pub findings-same : (xs ys : List Rule) → SameRules xs ys → Equal (findings vs a xs) (findings vs a ys)
  unfolding findings bits moves
  findings-same xs ys s = record {
    allowed = bit allows;
    allowed_audit = bit (audited allows);
    denied = bit denies;
    denied_audit = bit (audited denies);
    exact = move (exactly vs a);
    others = move (otherwise vs a);
  }
    where
      likes : Alike (those (applies vs a) xs) (those (applies vs a) ys)
      likes = alike-those (applies vs a) xs ys (alike xs ys s)

      bit : (p : Rule → Bool)
          → set_of 7 (λ k. some (λ (r : Rule). p r && has r.perms.0 k) (those (applies vs a) xs)) ≡ set_of 7 (λ k. some (λ (r : Rule). p r && has r.perms.0 k) (those (applies vs a) ys))
      bit p = λ i. set_of 7 (λ k. likes (λ (r : Rule). p r && has r.perms.0 k) i)

      move : (p : Rule → Bool) → SameMembers same_move (all (λ (r : Rule). move_by r.transition r.target) (those p (those (applies vs a) xs))) (all (λ (r : Rule). move_by r.transition r.target) (those p (those (applies vs a) ys)))
      move p = shown-same p (λ (r : Rule). move_by r.transition r.target) same_move (those (applies vs a) xs) (those (applies vs a) ys) likes

  pub rules-same : (asked : ℕ) (xs ys : List Rule) → SameRules xs ys → answer_from (findings vs a xs) asked ≡ answer_from (findings vs a ys) asked
  rules-same asked xs ys h = answer-fixed (findings vs a xs) (findings vs a ys) asked (findings-same xs ys h)

-- ---- what an answer says of its parts

granted-bit : (f : Parts) (asked k : ℕ) → k < 7 → has (answered f asked).granted.0 k ≡ (has asked k && granted_at f k)
unfolding answered
granted-bit f asked k h = has-set 7 (λ k. has asked k && granted_at f k) k h

at_x : (f : Parts) → granted_at f x ≡ granted_one same_move (f x)
unfolding granted_at
at_x f = refl

at_other : (f : Parts) (k : ℕ) → eqb k x ≡ false → granted_at f k ≡ granted (f k)
unfolding granted_at
at_other f k e = rw e

execute-is : (f : Parts) (asked : ℕ) → (answered f asked).execute ≡ executed f asked
unfolding answered
execute-is f asked = refl

record ByMode (wanted deny : Bool) (c : Choice Move) : Type 0 where
  asked : wanted ≡ true
  free : deny ≡ false
  single : is_single c ≡ true

by_mode : (asked deny : Bool) (c : Choice Move) → is_mode (if asked then chosen deny c else execute.NotAsked) ≡ true → ByMode asked deny c
by_mode false deny c e = absurd (false≢true e)
by_mode true true c e = absurd (false≢true e)
by_mode true false None e = absurd (false≢true e)
by_mode true false (Single m) e = record { asked = refl; free = refl; single = refl }
by_mode true false Several e = absurd (false≢true e)

several : (c : Choice Move) → is_several c ≡ true → c ≡ Several
several None e = absurd (false≢true e)
several (Single m) e = absurd (false≢true e)
several Several e = refl

free_of : (p : Part Move) → granted p ≡ true → p.deny ≡ false
unfolding granted
free_of p e = not-true p.deny (and_right p.allow (not p.deny) e)

-- what is shown is shown by an allow rule
abbrev Sound : Part Move → Type 0
Sound p = shown p ≡ true → p.allow ≡ true

one_of : (p : Part Move) → Sound p → p.deny ≡ false → is_single (choice_of same_move p) ≡ true → granted_one same_move p ≡ true
unfolding granted_one granted choice_of
one_of p s d c =
    let a : p.allow ≡ true = s (choice-shown same_move p.exact p.others ∙ ap (λ (b : Bool). b || is_several (choice_of same_move p)) c) in
    ap₂ ◌&&◌ (ap₂ (λ (b e : Bool). b && not e) a d) c

one_free : (p : Part Move) → granted_one same_move p ≡ true → granted p ≡ true
unfolding granted_one
one_free p e = and_left (granted p) (is_single (choice_of same_move p)) e

conflicts : (f : Parts) (asked : ℕ) → has asked x ≡ true → (f x).deny ≡ false → choice_of same_move (f x) ≡ Several → executed f asked ≡ execute.Conflict
unfolding executed
conflicts f asked a d c = λ i. if a i then chosen (d i) (c i) else execute.NotAsked

-- ---- no more, no less

module _ (f g : Parts) (asked : ℕ) where
  -- the same is chosen, and neither is denied
  same-execute : (f x).deny ≡ (g x).deny → choice_of same_move (f x) ≡ choice_of same_move (g x)
      → (executed f asked ≡ executed g asked) × ((answered f asked).target ≡ (answered g asked).target)
  unfolding answered executed
  same-execute d c = (
    (λ i. if has asked x then chosen (d i) (c i) else execute.NotAsked),
    (λ i. target_of (named_by (if has asked x then chosen (d i) (c i) else execute.NotAsked) (c i))),
  )

  no_more : Sound (g x) → ((k : ℕ) → granted (g k) ≡ true → granted (f k) ≡ true)
      → (granted_one same_move (g x) ≡ true → (granted_one same_move (f x) ≡ true) × (choice_of same_move (f x) ≡ choice_of same_move (g x)))
      → NoMore (answered f asked) (answered g asked)
  unfolding executed
  no_more sound bit one = record {
    bits = λ k h e.
        let w : (has asked k && granted_at g k) ≡ true = sym (granted-bit g asked k h) ∙ e in
        granted-bit f asked k h ∙ ap₂ ◌&&◌ (and_left (has asked k) (granted_at g k) w) (at k (eqb k x) refl (and_right (has asked k) (granted_at g k) w));
    transition = λ m e.
        let b : ByMode (has asked x) (g x).deny (choice_of same_move (g x)) = by_mode (has asked x) (g x).deny (choice_of same_move (g x)) (ap is_mode (sym (execute-is g asked) ∙ e)) in
        let w = one (one_of (g x) sound b.free b.single) in
        let s = same-execute (free_of (f x) (one_free (f x) w.0) ∙ sym b.free) w.1 in
        (execute-is f asked ∙ s.0 ∙ sym (execute-is g asked) ∙ e, s.1);
  }
    where
      at : (k : ℕ) (b : Bool) → eqb k x ≡ b → granted_at g k ≡ true → granted_at f k ≡ true
      at k true e h =
          let is : k ≡ x = eqb-true k x e in
          subst (λ (j : ℕ). granted_at f j ≡ true) (sym is) (at_x f ∙ (one (sym (at_x g) ∙ subst (λ (j : ℕ). granted_at g j ≡ true) is h)).0)
      at k false e h = at_other f k e ∙ bit k (sym (at_other g k e) ∙ h)

  no_less : ((k : ℕ) → granted (f k) ≡ true → granted (g k) ≡ true)
      → (granted_one same_move (f x) ≡ true → (granted_one same_move (g x) ≡ true) ⊎ Conflict same_move (g x)) → NoLess (answered f asked) (answered g asked)
  no_less bit one = record {
    bits = λ k h e.
        let w : (has asked k && granted_at f k) ≡ true = sym (granted-bit f asked k (omega arith)) ∙ e in
        let n : eqb k x ≡ false = ne_eqb k x (λ z. omega arith) in
        granted-bit g asked k (omega arith)
        ∙ ap₂ ◌&&◌ (and_left (has asked k) (granted_at f k) w) (at_other g k n ∙ bit k (sym (at_other f k n) ∙ and_right (has asked k) (granted_at f k) w));
    execute = λ e.
        let w : (has asked x && granted_at f x) ≡ true = sym (granted-bit f asked x (omega arith)) ∙ e in
        let a : has asked x ≡ true = and_left (has asked x) (granted_at f x) w in
        ⊎_elim (λ h. inl (granted-bit g asked x (omega arith) ∙ ap₂ ◌&&◌ a (at_x g ∙ h)))
        (λ h. inr (execute-is g asked ∙ conflicts g asked a (free_of (g x) h.free) (several (choice_of same_move (g x)) h.several)))
        (one (sym (at_x f) ∙ and_right (has asked x) (granted_at f x) w));
  }

-- ---- rules added

module _ (vs : List Variable) (a : Access) (asked : ℕ) (xs ys : List Rule) where
  deny-parts : Added denies xs ys → NoMore (answered (parts_of vs a xs) asked) (answered (parts_of vs a ys) asked)
  deny-parts h =
      no_more (parts_of vs a xs) (parts_of vs a ys) asked (part_sound (files vs a x) ys) (λ k. deny-added (files vs a k) h) (deny-added-one (files vs a x) h same_move)

  allow-parts : Added allows xs ys → NoLess (answered (parts_of vs a xs) asked) (answered (parts_of vs a ys) asked)
  allow-parts h = no_less (parts_of vs a xs) (parts_of vs a ys) asked (λ k. allow-added (files vs a k) h) (allow-added-one (files vs a x) h same_move)

  module _ (wx : every whole xs ≡ true) (wy : every whole ys ≡ true) where
    over : (S : Answer → Answer → Type 0) → S (answered (parts_of vs a xs) asked) (answered (parts_of vs a ys) asked) → S (answer_from (findings vs a xs) asked) (answer_from (findings vs a ys) asked)
    over S h = subst₂ S (sym (by_parts vs a asked xs wx)) (sym (by_parts vs a asked ys wy)) h

    pub deny-less : Added denies xs ys → NoMore (answer_from (findings vs a xs) asked) (answer_from (findings vs a ys) asked)
    deny-less h = over NoMore (deny-parts h)

    pub allow-no-less : Added allows xs ys → NoLess (answer_from (findings vs a xs) asked) (answer_from (findings vs a ys) asked)
    allow-no-less h = over NoLess (allow-parts h)
