-- Laws of the parts of an answer.
use Rattle.std.specs.Prelude.{if◌then◌else◌}
use Prim.Native.Nat.{ℕ, suc, ◌+◌, ◌-◌, ◌<◌, ◌≤◌, min}
use mathlib.Core.Path.{◌≡◌, refl, sym, ap, ap₂, ◌∙◌, subst}
use mathlib.Core.List.{List, [], ◌∷◌, ◌++◌, append_assoc}
use mathlib.Core.Bool.{Bool, true, false, not, ◌||◌, ◌&&◌, and-true, or-true, or-false, false≢true}
use native.Mathlib.Numerals.{add-one}
use native.Mathlib.Omega.{arith}
use lib.Bits.{bit_and, and_comm, and_le_l, and_le_r}
use lib.Dec.{eqb, ltb}
use lib.ListN.{length, replicate, take, drop}
use lib.Seq.{take_all}
use borrow.Author.Tests.{eqb-true, ltb-true, ltb-false}
use Rattle.std.proofs.lemmas.List.{drop-replicate}
use Rattle.scan.specs.Bytes.{every}
use Rattle.scan.proofs.Bools.{and_left}
use Rattle.perms.specs.Sets.{has, set_of, perms, unite, without, within}
use Rattle.perms.specs.declared.Perms.{Perms}
use Rattle.modes.specs.declared.Execute.{Execute}
use Rattle.modes.specs.declared.Execute.TheVariants.{NotAsked, Denied, Conflict, ByMode}
use Rattle.perms.proofs.Laws.{has-and, has-set, has-unite, has_within, has-without, set-eq, set-lt, unite-lt, within_has, without-le}
use Rattle.family.specs.Members.{preferred, Choice, None, Single, Several, choice}
use Rattle.findings.specs.Findings.{Move, Findings, same_move}
use Rattle.findings.specs.Weighed.{Weighed, weighed}
use Rattle.answer.specs.Answers.{answer_from, x, execute_by, execute_of, grants, grants_by, is_mode, move_of, named_by, records, records_by, target_of}
use Rattle.answer.specs.Parts.{Granted, Recorded, answer_to, first_of, target_by}

-- ---- the sets {x} and of all permissions

has-x : (k : ℕ) → k < 8 → has 64 k ≡ eqb k x
has-x k h = has-set 8 (λ k. eqb k x) k h

has_all : (k : ℕ) → k < 7 → has 127 k ≡ true
has_all k h = has-set 7 (λ k. true) k h

-- {x} is within the sets that have x
pub within-x : (a : Perms) → a.0 < 256 → within (perms 64) a ≡ has a.0 x
within-x a h =
    go (within (perms 64) a) (has a.0 x)
    (λ e. within_has (perms 64) a x (omega arith) e (has-x x (omega arith)))
    (λ e. has_within (perms 64) a (λ k l q. subst (λ (j : ℕ). has a.0 j ≡ true) (sym (eqb-true k x (sym (has-x k l) ∙ q))) e))
  where
    go : (p q : Bool) → (p ≡ true → q ≡ true) → (q ≡ true → p ≡ true) → p ≡ q
    go true q f g = sym (f refl)
    go false true f g = g refl
    go false false f g = refl

-- the asked permissions among all
masked : (a k : ℕ) → k < 7 → has (bit_and a 127) k ≡ has a k
masked a k h = ap (λ (n : ℕ). has n k) (and_comm a 127) ∙ has-and 127 a k ∙ ap (λ (b : Bool). b && has a k) (has_all k h)

masked-lt : (a : ℕ) → bit_and a 127 < 128
masked-lt a = omega (arith, and_le_r a 127)

-- ---- execute

-- of a set that is not empty the choice is not None
first-choice : (es os : List Move) → first_of (choice same_move es) (choice same_move os) ≡ choice same_move (preferred es os)
unfolding choice
first-choice [] os = refl
first-choice (m ∷ ms) os = go (every (same_move m) ms)
  where
    go : (b : Bool) → first_of (if b then Single m else Several) (choice same_move os) ≡ (if b then Single m else Several)
    go true = refl
    go false = refl

pub named-target : (e : Execute) (c : Choice Move) → target_by (is_mode e) c ≡ named_by e c
named-target NotAsked c = refl
named-target Denied c = refl
named-target Conflict c = refl
named-target (ByMode m) None = refl
named-target (ByMode m) (Single t) = refl
named-target (ByMode m) Several = refl

-- ---- granted

module _ (asked allowed denied : Perms) (h : denied.0 < 256) where
  abbrev left : Perms
  left = without (perms (bit_and asked.0 allowed.0)) denied

  left-each : (k : ℕ) → k < 7 → has left.0 k ≡ ((has asked.0 k && has allowed.0 k) && not (has denied.0 k))
  left-each k l = has-without (perms (bit_and asked.0 allowed.0)) denied k (omega arith) ∙ ap (λ (b : Bool). b && not (has denied.0 k)) (has-and asked.0 allowed.0 k)

  left_le : asked.0 < 256 → left.0 ≤ asked.0
  left_le s =
      let e = and_le_l asked.0 allowed.0 in
      omega (arith, without-le (perms (bit_and asked.0 allowed.0)) denied (omega arith) h)

  pub granted-mode : Granted asked.0 allowed.0 denied.0 true left.0
  granted-mode = record { each = λ k l. left-each k l ∙ rw (or-true, and-true); small = λ s. omega (arith, left_le (omega arith)) }

  pub granted-none : Granted asked.0 allowed.0 denied.0 false (without left (perms 64)).0
  granted-none =
      record {
        each = λ k l. has-without left (perms 64) k (omega arith) ∙ rw (left-each k l, has-x k (omega arith), or-false);
        small = λ s. let e = left_le (omega arith) in omega (arith, without-le left (perms 64) (omega arith) (omega arith));
      }

-- ---- recorded

module _ (asked granted denied : Perms) (allowed_audit denied_audit : ℕ) (hg : granted.0 < 256) (hd : denied.0 < 256) where
  abbrev refused : Perms
  refused = without asked granted

  abbrev by_allow : Perms
  by_allow = perms (bit_and granted.0 allowed_audit)

  abbrev by_deny : Perms
  by_deny = perms (bit_and (bit_and refused.0 denied.0) denied_audit)

  refused-each : (k : ℕ) → k < 7 → has refused.0 k ≡ (has asked.0 k && not (has granted.0 k))
  refused-each k l = has-without asked granted k (omega arith)

  pub recorded-each : Recorded asked.0 granted.0 allowed_audit denied.0 denied_audit (unite (unite by_allow by_deny) (without refused denied)).0
  recorded-each =
      record {
        each = λ k l. rw (
          has-unite (unite by_allow by_deny) (without refused denied) k (omega arith),
          has-unite by_allow by_deny k (omega arith),
          has-and granted.0 allowed_audit k,
          has-and (bit_and refused.0 denied.0) denied_audit k,
          has-and refused.0 denied.0 k,
          has-without refused denied k (omega arith),
          refused-each k l,
        );
        small = λ ha hs.
            let r : refused.0 < 128 = omega (arith, without-le asked granted (omega arith) hg) in
            let a : by_allow.0 < 128 = omega (arith, and_le_l granted.0 allowed_audit) in
            let d : by_deny.0 < 128 = omega (arith, and_le_l (bit_and refused.0 denied.0) denied_audit, and_le_l refused.0 denied.0) in
            let u : (unite by_allow by_deny).0 < 128 = unite-lt by_allow by_deny (omega arith) (omega arith) a d in
            unite-lt (unite by_allow by_deny) (without refused denied) (omega arith) (omega (arith, without-le refused denied (omega arith) hd)) u (omega (arith, without-le refused denied (omega arith) hd));
      }

-- ---- the parts as the definitions have them

module _ (w : Weighed) (asked wanted : ℕ) (e : wanted ≡ bit_and asked 127) where
  same : (k : ℕ) → k < 7 → has wanted k ≡ has asked k
  same k l = ap (λ (n : ℕ). has n k) e ∙ masked asked k l

  small : wanted < 128
  small = omega (arith, masked-lt asked)

  pub execute-is : (c : Choice Move) → execute_by wanted w.denied c ≡ execute_by asked w.denied c
  execute-is c = rw (same x (omega arith))

  module _ (x : Execute) where
    abbrev grant : ℕ → Bool
    grant = grants_by asked w.allowed w.denied x

    pub granted-is : (r : ℕ) (mode : Bool) → mode ≡ is_mode x → Granted wanted w.allowed w.denied mode r → r ≡ set_of 7 grant
    granted-is r mode m g = set-eq 7 r grant (g.small small) (λ k l. g.each k l ∙ rw (same k l, m))

    granted-asked : (k : ℕ) → grant k ≡ true → has asked k ≡ true
    granted-asked k h =
        let a : Bool = has asked k in
        let b : Bool = a && has w.allowed k in
        let d : Bool = not (has w.denied k) in
        and_left a (has w.allowed k) (and_left b d (and_left (b && d) (not (eqb k 6) || is_mode x) h))

    abbrev keep : ℕ → Bool
    keep k = records_by asked (grant k) w.allowed_audit w.denied w.denied_audit k

    pub recorded-is : (granted r : ℕ) → granted ≡ set_of 7 grant → Recorded wanted granted w.allowed_audit w.denied w.denied_audit r → r ≡ set_of 7 keep
    recorded-is granted r q h =
        set-eq 7 r keep (h.small small (rw q (set-lt 7 grant)))
        (λ k l. h.each k l
        ∙ rw (same k l, ap (λ (n : ℕ). has n k) q ∙ has-set 7 grant k l)
        (go (has asked k) (grant k) (has w.allowed_audit k) (has w.denied k) (has w.denied_audit k) (granted-asked k)))
      where
        go : (a g p d q : Bool) → (g ≡ true → a ≡ true)
            → (((g && p) || (((a && not g) && d) && q)) || ((a && not g) && not d)) ≡ (a && (if g then p else if d then q else true))
        go true true true d q h = refl
        go true true false d q h = refl
        go true false p true true h = refl
        go true false p true false h = refl
        go true false p false q h = refl
        go false true p d q h = absurd (false≢true (h refl))
        go false false p d q h = refl

-- the answer of findings is that of what is gathered of them
pub answer-gathered : (f : Findings) (asked : ℕ) → answer_to (weighed f) asked ≡ answer_from f asked
unfolding answer_to answer_from weighed execute_of grants records move_of
answer-gathered f asked = rw (first-choice f.exact f.others)

-- ---- the bytes of a target

-- as many as have room, over zeros
pub filled : (s l : List ℕ) (n : ℕ) → n ≡ min (length s) 255 → l ≡ take n s → record { bytes = l ++ drop n (replicate 255 0); len = n } ≡ target_of s
filled s l n e f =
    let none : 255 - n ≡ 255 - length s = omega arith in
    let zeros : drop n (replicate 255 0) ≡ replicate (255 - length s) 0 = drop-replicate n 255 0 ∙ ap (λ (j : ℕ). replicate j 0) none in
    let k : n ≡ min 255 (length s) = omega arith in
    λ i. record { bytes = ap₂ ◌++◌ (f ∙ go (ltb (length s) 255) refl) zeros i; len = k i }
  where
    go : (b : Bool) → ltb (length s) 255 ≡ b → take n s ≡ take 255 s
    go true h =
        let k : length s < 255 = ltb-true (length s) 255 h in
        take_all n s (omega arith) ∙ sym (take_all 255 s (omega arith))
    go false h =
        let k : 255 ≤ length s = ltb-false (length s) 255 h in
        let m : n ≡ 255 = omega arith in
        ap (λ (j : ℕ). take j s) m
