-- What is read keeps a law: where every rule that is read keeps it, so do all rules of the profiles.
use Prim.Native.Nat.{ℕ, zero, suc, ◌+◌, ◌-◌}
use mathlib.Core.Path.{◌≡◌, refl, sym, ap₂, subst}
use mathlib.Core.List.{List, [], ◌∷◌}
use mathlib.Core.Bool.{Bool, true, false, ◌&&◌}
use Rattle.scan.specs.Bytes.{bytes, every}
use Rattle.text.specs.Reading.{Reading, Read, Refused, ◌>>=◌, refuse_if, judged}
use Rattle.blanks.specs.Blanks.{standing, stands_at}
use Rattle.tokens.specs.Tokens.{Token, no_stop, token_at}
use Rattle.pattern.specs.Expansions.{Variable}
use Rattle.pattern.specs.Faults.{pattern_fault}
use Rattle.rule.specs.Rules.{Rule, Qualifiers, qualifiers_at, pattern_at, RuleRead, rule_from, body_at, Step, More, Close, rule_at, end_at, RulesRead, step_then, rules_at}
use Rattle.heads.specs.Heads.{head_at}
use Rattle.profile.specs.Profiles.{Profile, OneProfile, ends, profile_at, unless_end, profiles_at}
use Rattle.laws.proofs.Steps.{never, inner}

-- ---- what is read, if it is, keeps a law

pub data Keeps {A : Type 0} (P : A → Type 0) : Reading A → Type 0 where
  kept : {a : A} → P a → Keeps P (Read a)
  refused : {n p : ℕ} → Keeps P (Refused n p)

pub after : {A B : Type 0} {P : A → Type 0} {Q : B → Type 0} (f : A → Reading B) {r : Reading A} → Keeps P r → ((a : A) → P a → Keeps Q (f a)) → Keeps Q (r >>= f)
after f (kept {a = a} k) h = h a k
after f refused h = refused

pub next : {A B : Type 0} {Q : B → Type 0} (f : A → Reading B) (r : Reading A) → ((a : A) → Keeps Q (f a)) → Keeps Q (r >>= f)
next f (Read a) h = h a
next f (Refused n p) h = refused

pub after_read : {A B : Type 0} {Q : B → Type 0} (f : A → Reading B) (r : Reading A) → ((a : A) → r ≡ Read a → Keeps Q (f a)) → Keeps Q (r >>= f)
after_read f (Read a) h = h a refl
after_read f (Refused n p) h = refused

-- the test did not refuse; nor did a fault
pub after_test : {B : Type 0} {Q : B → Type 0} (b : Bool) (n p : ℕ) (x : Reading B) → (b ≡ false → Keeps Q x) → Keeps Q (refuse_if b n p >>= λ _. x)
after_test true n p x h = refused
after_test false n p x h = h refl

pub after-judged : {B : Type 0} {Q : B → Type 0} (n p : ℕ) (x : Reading B) → (n ≡ 0 → Keeps Q x) → Keeps Q (judged n p >>= λ _. x)
after-judged zero p x h = h refl
after-judged (suc n) p x h = refused

pub read_keeps : {A : Type 0} {P : A → Type 0} {r : Reading A} (a : A) → Keeps P r → r ≡ Read a → P a
read_keeps {A} {P} a (kept h) e = subst P (sym (inner e)) h
read_keeps a refused e = absurd (never e)

-- ---- the rules of a profile

-- P holds of every rule that is read under the variables
module _ (P : Rule → Bool) (vs : List Variable) (s : List ℕ) (each : (q : Qualifiers) (t : Token) → Keeps (λ (r : RuleRead). P r.rule ≡ true) (rule_from (pattern_fault vs) s q t)) where
  abbrev KeptStep : Step → Type 0
  KeptStep (More r) = P r.rule ≡ true
  KeptStep (Close n) = Unit {0}

  step_keeps : (at : ℕ) → Keeps KeptStep (rule_at (pattern_fault vs) s at)
  unfolding rule_at body_at
  step_keeps at = go (stands_at (bytes "}") s at)
    where
      go : (b : Bool) → Keeps KeptStep
          (elim b as (λ _. Reading Step) [
            | true ↦ Read (Close (standing s at + 1))
            | false ↦ pattern_at s (qualifiers_at s at) >>= λ t. rule_from (pattern_fault vs) s (qualifiers_at s at) t >>= λ r. Read (More r)
          ])
      go true = kept tt
      go false = next _ (pattern_at s (qualifiers_at s at)) λ t. after _ (each (qualifiers_at s at) t) λ r h. kept h

  abbrev KeptRules : RulesRead → Type 0
  KeptRules r = every P r.rules ≡ true

  rules-keep : (left at : ℕ) → Keeps KeptRules (rules_at left (pattern_fault vs) s at)
  unfolding rules_at every
  rules-keep zero at = next _ (end_at s at) λ n. kept refl
  rules-keep (suc left) at = after _ (step_keeps at) λ x h. go x h (rules-keep left)
    where
      go : (x : Step) → KeptStep x → ((next : ℕ) → Keeps KeptRules (rules_at left (pattern_fault vs) s next))
          → Keeps KeptRules (step_then (λ r. rules_at left (pattern_fault vs) s r.next) x)
      go (More r) h k = after _ (k r.next) λ more g. kept (ap₂ ◌&&◌ h g)
      go (Close n) h k = kept refl

  -- ---- the profiles

  abbrev KeptProfiles : List Profile → Type 0
  KeptProfiles ps = every (λ (p : Profile). every P p.rules) ps ≡ true

  profile-keeps : (full : Bool) (rules_left : ℕ) (used : List (List ℕ)) (at : ℕ) → Keeps (λ (x : OneProfile). every P x.profile.rules ≡ true) (profile_at full rules_left used vs s at)
  unfolding profile_at
  profile-keeps full rules_left used at = next _ (head_at full used s at) λ h. after _ (rules-keep rules_left h.next) λ rs g. kept g

  end-keeps : (at : ℕ) (more : Reading (List Profile)) → Keeps KeptProfiles more → Keeps KeptProfiles (unless_end s at more)
  unfolding unless_end every
  end-keeps at more k = go (ends (token_at no_stop s at))
    where
      go : (b : Bool) → Keeps KeptProfiles (elim b as (λ _. Reading (List Profile)) [ true ↦ Read [] | false ↦ more ])
      go true = kept refl
      go false = k

  pub profiles-keep : (left rules_left : ℕ) (used : List (List ℕ)) (at : ℕ) → Keeps (λ (ps : List Profile). every (λ (p : Profile). every P p.rules) ps ≡ true) (profiles_at left rules_left used vs s at)
  unfolding profiles_at every
  profiles-keep zero rules_left used at = end-keeps at _ (next _ (profile_at true rules_left used vs s at) λ x. refused)
  profiles-keep (suc left) rules_left used at =
      end-keeps at _
      (after _ (profile-keeps false rules_left used at) λ x g.
      after _ (profiles-keep left (rules_left - x.count) (x.profile.name ∷ used) x.next) λ more e. kept (ap₂ ◌&&◌ g e))
