-- Document 01's findings are the parts of the seven permissions, and its answer is the one that parts give.
use Rattle.std.proofs.Common.{Option, None, Some, Ok}
use Rattle.std.specs.Prelude.{if◌then◌else◌}
use Prim.Native.Nat.{ℕ, ◌<◌}
use native.Mathlib.Omega.{arith}
use mathlib.Core.Path.{◌≡◌, refl, sym, ap, ap₂, ◌∙◌, subst}
use mathlib.Core.List.{List, [], ◌∷◌, ◌++◌}
use mathlib.Core.Bool.{Bool, true, false, not, ◌||◌, ◌&&◌, false≢true, and_comm, and-true}
use lib.Dec.{eqb}
use borrow.Author.Tests.{eqb-true}
use Rattle.scan.specs.Bytes.{some, every}
use Rattle.scan.proofs.Bools.{and_left, and_right}
use Rattle.perms.specs.Sets.{has, set_of, perms}
use Rattle.perms.proofs.Laws.{has-set, set-eq, set-lt}
use Rattle.perms.specs.declared.Perms.{Perms}
use Rattle.family.specs.Members.{those, all, SameMembers, Choice, None, Single, Several, is_single}
use Rattle.family.specs.Families.{allows, gathered, carrying, part, join_part, Equal, choice_of, granted, granted_one, recorded}
use Rattle.family.proofs.Lists.{some-those, those-those}
use Rattle.modes.specs.declared.Execute.TheVariants as execute
use Rattle.modes.specs.declared.Mode.{Mode}
use Rattle.pattern.specs.Expansions.{Variable}
use Rattle.rule.specs.Rules.{Rule}
use Rattle.findings.specs.Findings as found
use Rattle.findings.specs.Findings.{Access, Move, applies, move_by, bits, moves, findings, same_move}
use Rattle.findings.proofs.Joining.{set-or}
use Rattle.answer.specs.Answers.{x, chosen, is_mode, named_by, target_of, move_of, execute_of, grants, records, answer_from}
use Rattle.laws.specs.Files.{files, Parts, parts_of, six, executed, granted_at, answered}
use Rattle.laws.specs.Whole.{fits, whole}

-- ---- the six

-- what a rule shows
abbrev shows : Rule → List Move
shows r = move_by r.transition r.target

-- a whole rule that does not carry x shows nothing
silent : (deny : Bool) (p : Perms) (t : Option Mode) (to : List ℕ) → fits deny p t ≡ true → has p.0 x ≡ false → move_by t to ≡ []
silent deny p None to e h = refl
silent deny p (Some m) to e h = absurd (false≢true (sym h ∙ and_right (not deny) (has p.0 x) e))

-- so it may be left out
shown_by : (p : Rule → Bool) (rs : List Rule) → every whole rs ≡ true → all shows (those (λ r. has r.perms.0 x && p r) rs) ≡ all shows (those p rs)
unfolding every those all
shown_by p [] e = refl
shown_by p (r ∷ rs) e =
    go (has r.perms.0 x) (p r) (silent r.deny r.perms r.transition r.target (and_left (whole r) (every whole rs) e))
    (shown_by p rs (and_right (whole r) (every whole rs) e))
  where
    carried : List Rule
    carried = those (λ r. has r.perms.0 x && p r) rs

    go : (a b : Bool) → (a ≡ false → shows r ≡ []) → all shows carried ≡ all shows (those p rs)
        → all shows (elim (a && b) as (λ _. List Rule) [ true ↦ r ∷ carried | false ↦ carried ])
        ≡ all shows (elim b as (λ _. List Rule) [ true ↦ r ∷ those p rs | false ↦ those p rs ])
    go true true n h = ap (λ (l : List Move). shows r ++ l) h
    go true false n h = h
    go false true n h = h ∙ ap (λ (l : List Move). l ++ all shows (those p rs)) (sym (n refl))
    go false false n h = h

module _ (vs : List Variable) (a : Access) (rs : List Rule) where
  bits-part : (p : Rule → Bool) → bits p (those (applies vs a) rs) ≡ set_of 7 (λ k. some p (carrying (files vs a k) rs))
  unfolding bits
  bits-part p = λ i. set_of 7 (λ k. one k i)
    where
      turn : (a b c : Bool) → (a && (b && c)) ≡ ((a && c) && b)
      turn true b c = and_comm b c
      turn false b c = refl

      one : (k : ℕ) → some (λ (r : Rule). p r && has r.perms.0 k) (those (applies vs a) rs) ≡ some p (those (λ (r : Rule). applies vs a r && has r.perms.0 k) rs)
      one k =
          some-those (applies vs a) (λ (r : Rule). p r && has r.perms.0 k) rs
          ∙ (λ i. some (λ (r : Rule). turn (applies vs a r) (p r) (has r.perms.0 k) i) rs)
          ∙ sym (some-those (λ (r : Rule). applies vs a r && has r.perms.0 k) p rs)

  module _ (w : every whole rs ≡ true) where
    moves-part : (p : Rule → Bool) → moves p (those (applies vs a) rs) ≡ all shows (those p (carrying (files vs a x) rs))
    unfolding moves
    moves-part p =
        ap (all shows) (those-those (applies vs a) p rs)
        ∙ sym (shown_by (λ r. applies vs a r && p r) rs w)
        ∙ ap (all shows) ((λ i. those (λ (r : Rule). turn (has r.perms.0 x) (applies vs a r) (p r) i) rs)
        ∙ sym (those-those (λ (r : Rule). applies vs a r && has r.perms.0 x) p rs))
      where
        turn : (a b c : Bool) → (a && (b && c)) ≡ ((b && a) && c)
        turn true true c = refl
        turn true false c = refl
        turn false true c = refl
        turn false false c = refl

    -- document 01's findings are the parts of the seven permissions, of whole rules, as all accepted ones are
    pub findings-six : findings vs a rs ≡ six (parts_of vs a rs)
    unfolding findings six part gathered
    findings-six = λ i. record {
      allowed = bits-part (allows (files vs a x)) i;
      allowed_audit = bits-part (λ r. allows (files vs a x) r && (files vs a x).audit r) i;
      denied = bits-part (files vs a x).deny i;
      denied_audit = bits-part (λ r. (files vs a x).deny r && (files vs a x).audit r) i;
      exact = moves-part (λ r. allows (files vs a x) r && (files vs a x).exact r) i;
      others = moves-part (λ r. allows (files vs a x) r && not ((files vs a x).exact r)) i;
    }

-- ---- joining and equality

-- document 01's joining is joining permission by permission
pub join-six : (f g : Parts) → found.join (six f) (six g) ≡ six (λ k. join_part (f k) (g k))
unfolding found.join six join_part
join-six f g = λ i. record {
  allowed = sym (set-or 7 (λ k. (f k).allow) (λ k. (g k).allow)) i;
  allowed_audit = sym (set-or 7 (λ k. (f k).allow_audit) (λ k. (g k).allow_audit)) i;
  denied = sym (set-or 7 (λ k. (f k).deny) (λ k. (g k).deny)) i;
  denied_audit = sym (set-or 7 (λ k. (f k).deny_audit) (λ k. (g k).deny_audit)) i;
  exact = (f x).exact ++ (g x).exact;
  others = (f x).others ++ (g x).others;
}

set_same : (n : ℕ) (f g : ℕ → Bool) → ((k : ℕ) → k < n → f k ≡ g k) → set_of n f ≡ set_of n g
set_same n f g e = set-eq n (set_of n f) g (set-lt n f) (λ k h. has-set n f k h ∙ e k h)

-- document 01's equality is equality permission by permission ..
pub equal-six : (f g : Parts) → ((k : ℕ) → k < 7 → Equal same_move (f k) (g k)) → found.Equal (six f) (six g)
unfolding six
equal-six f g e = record {
  allowed = set_same 7 (λ k. (f k).allow) (λ k. (g k).allow) (λ k h. (e k h).allow);
  allowed_audit = set_same 7 (λ k. (f k).allow_audit) (λ k. (g k).allow_audit) (λ k h. (e k h).allow_audit);
  denied = set_same 7 (λ k. (f k).deny) (λ k. (g k).deny) (λ k h. (e k h).deny);
  denied_audit = set_same 7 (λ k. (f k).deny_audit) (λ k. (g k).deny_audit) (λ k h. (e k h).deny_audit);
  exact = (e x (omega arith)).exact;
  others = (e x (omega arith)).others;
}

-- .. and the other way round, since permissions but x show nothing
set-has : (f g : ℕ → Bool) → set_of 7 f ≡ set_of 7 g → (k : ℕ) → k < 7 → f k ≡ g k
set-has f g e k h = sym (has-set 7 f k h) ∙ ap (λ (n : ℕ). has n k) e ∙ has-set 7 g k h

all_none : {R M : Type 0} (f : R → List M) (b : Bool) (rs : List R) → b ≡ false → all (λ r. if b then f r else []) rs ≡ []
unfolding all
all_none f b [] e = refl
all_none {R} {M} f b (r ∷ rs) e = ap₂ (λ (c : Bool) (l : List M). (if c then f r else []) ++ l) e (all_none f b rs e)

only_x : (f g : ℕ → List Move) → ((k : ℕ) → eqb k x ≡ false → f k ≡ []) → ((k : ℕ) → eqb k x ≡ false → g k ≡ []) → SameMembers same_move (f x) (g x)
    → (k : ℕ) → SameMembers same_move (f k) (g k)
only_x f g n o e k = go (eqb k x) refl
  where
    go : (b : Bool) → eqb k x ≡ b → SameMembers same_move (f k) (g k)
    go true h = subst (λ (j : ℕ). SameMembers same_move (f j) (g j)) (sym (eqb-true k x h)) e
    go false h = λ m. ap (some (same_move m)) (n k h ∙ sym (o k h))

module _ (vs : List Variable) (a : Access) (rs : List Rule) (k : ℕ) (e : eqb k x ≡ false) where
  quiet : (p : Rule → Bool) → all (files vs a k).shows (those p (carrying (files vs a k) rs)) ≡ []
  quiet p = all_none shows (eqb k x) (those p (carrying (files vs a k) rs)) e

  quiet-exact : (parts_of vs a rs k).exact ≡ []
  unfolding part gathered
  quiet-exact = quiet (λ r. allows (files vs a k) r && (files vs a k).exact r)

  quiet-others : (parts_of vs a rs k).others ≡ []
  unfolding part gathered
  quiet-others = quiet (λ r. allows (files vs a k) r && not ((files vs a k).exact r))

pub six-equal : (vs : List Variable) (a : Access) (xs ys : List Rule) → found.Equal (six (parts_of vs a xs)) (six (parts_of vs a ys))
    → (k : ℕ) → k < 7 → Equal same_move (parts_of vs a xs k) (parts_of vs a ys k)
unfolding six
six-equal vs a xs ys e k h = record {
  allow = set-has (λ k. (parts_of vs a xs k).allow) (λ k. (parts_of vs a ys k).allow) e.allowed k h;
  allow_audit = set-has (λ k. (parts_of vs a xs k).allow_audit) (λ k. (parts_of vs a ys k).allow_audit) e.allowed_audit k h;
  deny = set-has (λ k. (parts_of vs a xs k).deny) (λ k. (parts_of vs a ys k).deny) e.denied k h;
  deny_audit = set-has (λ k. (parts_of vs a xs k).deny_audit) (λ k. (parts_of vs a ys k).deny_audit) e.denied_audit k h;
  exact = only_x (λ k. (parts_of vs a xs k).exact) (λ k. (parts_of vs a ys k).exact) (quiet-exact vs a xs) (quiet-exact vs a ys) e.exact k;
  others = only_x (λ k. (parts_of vs a xs k).others) (λ k. (parts_of vs a ys k).others) (quiet-others vs a xs) (quiet-others vs a ys) e.others k;
}

-- ---- the answer

-- of x: asked, allowed, not denied, and a single one chosen
one-x : (asked allow deny : Bool) (c : Choice Move)
    → (asked && allow && not deny && is_mode (if asked then chosen deny c else execute.NotAsked)) ≡ (asked && ((allow && not deny) && is_single c))
one-x false allow deny c = refl
one-x true false deny c = refl
one-x true true true c = refl
one-x true true false None = refl
one-x true true false (Single m) = refl
one-x true true false Several = refl

plain : (a b c : Bool) → (a && b && c && true) ≡ (a && (b && c))
plain true b c = and-true (b && c)
plain false b c = refl

asked-once : (a b c d : Bool) → (a && (if a && b then c else d)) ≡ (a && (if b then c else d))
asked-once true b c d = refl
asked-once false b c d = refl

module _ (f : Parts) where
  allow-six : (k : ℕ) → k < 7 → has (six f).allowed k ≡ (f k).allow
  unfolding six
  allow-six k h = has-set 7 (λ k. (f k).allow) k h

  allow-audit-six : (k : ℕ) → k < 7 → has (six f).allowed_audit k ≡ (f k).allow_audit
  unfolding six
  allow-audit-six k h = has-set 7 (λ k. (f k).allow_audit) k h

  deny-six : (k : ℕ) → k < 7 → has (six f).denied k ≡ (f k).deny
  unfolding six
  deny-six k h = has-set 7 (λ k. (f k).deny) k h

  deny-audit-six : (k : ℕ) → k < 7 → has (six f).denied_audit k ≡ (f k).deny_audit
  unfolding six
  deny-audit-six k h = has-set 7 (λ k. (f k).deny_audit) k h

  move-six : move_of (six f) ≡ choice_of same_move (f x)
  unfolding move_of six choice_of
  move-six = refl

  pub execute-six : (asked : ℕ) → execute_of (six f) asked ≡ executed f asked
  unfolding execute_of executed
  execute-six asked = λ i. if has asked x then chosen (deny-six x (omega arith) i) (move-six i) else execute.NotAsked

  pub grants-six : (asked k : ℕ) → k < 7 → grants (six f) asked k ≡ (has asked k && granted_at f k)
  unfolding grants granted_at granted granted_one executed
  grants-six asked k h =
      (λ i. has asked k && allow-six k h i && not (deny-six k h i) && (not (eqb k x) || is_mode (execute-six asked i)))
      ∙ go (eqb k x) refl
    where
      is : k ≡ x → (has asked k && (f k).allow && not (f k).deny && is_mode (executed f asked)) ≡ (has asked k && granted_one same_move (f k))
      is e =
          subst (λ (j : ℕ). (has asked j && (f j).allow && not (f j).deny && is_mode (executed f asked)) ≡ (has asked j && granted_one same_move (f j))) (sym e)
          (one-x (has asked x) (f x).allow (f x).deny (choice_of same_move (f x)))

      go : (b : Bool) → eqb k x ≡ b
          → (has asked k && (f k).allow && not (f k).deny && (not b || is_mode (executed f asked))) ≡ (has asked k && (if b then granted_one same_move (f k) else granted (f k)))
      go true e = is (eqb-true k x e)
      go false e = plain (has asked k) (f k).allow (not (f k).deny)

  pub records-six : (asked k : ℕ) → k < 7 → records (six f) asked k ≡ (has asked k && recorded (granted_at f k) (f k))
  unfolding records recorded
  records-six asked k h =
      (λ i. has asked k && (if grants-six asked k h i then allow-audit-six k h i else if deny-six k h i then deny-audit-six k h i else true))
      ∙ asked-once (has asked k) (granted_at f k) (f k).allow_audit (if (f k).deny then (f k).deny_audit else true)

  -- the answer of document 01 is the one that parts give
  pub answer-six : (asked : ℕ) → answer_from (six f) asked ≡ answered f asked
  unfolding answer_from answered
  answer-six asked = λ i. record {
    verdict = Ok tt;
    granted = perms (set_same 7 (grants (six f) asked) (λ k. has asked k && granted_at f k) (grants-six asked) i);
    recorded = perms (set_same 7 (records (six f) asked) (λ k. has asked k && recorded (granted_at f k) (f k)) (records-six asked) i);
    execute = execute-six asked i;
    target = target_of (named_by (execute-six asked i) (move-six i));
  }

-- the answer from the findings of whole rules
pub by_parts : (vs : List Variable) (a : Access) (asked : ℕ) (rs : List Rule) → every whole rs ≡ true → answer_from (findings vs a rs) asked ≡ answered (parts_of vs a rs) asked
by_parts vs a asked rs w = ap (λ f. answer_from f asked) (findings-six vs a rs w) ∙ answer-six (parts_of vs a rs) asked
