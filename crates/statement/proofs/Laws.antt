-- What the definitions of rules say, by what stands first.
use Prim.Native.Nat.{ℕ, zero, suc, ◌+◌}
use mathlib.Core.Path.{◌≡◌, refl, ap, sym, ◌∙◌}
use mathlib.Core.List.{List, ◌∷◌}
use mathlib.Core.Bool.{Bool, true, false}
use lib.ListN.{length, drop}
use native.Mathlib.Omega.{arith}
use Rattle.scan.specs.Bytes.{bytes, starts_with}
use Rattle.text.specs.Reading.{Reading, Read, Refused, ◌>>=◌, judged}
use Rattle.tokens.specs.Tokens.{Token}
use Rattle.blanks.specs.Blanks.{standing, stands_at}
use Rattle.blanks.proofs.Laws.{standing-settled}
use Rattle.rule_tail.specs.Tails.{perms_at}
use Rattle.rule.specs.Rules.{Rule, Qualifiers, RuleRead, RulesRead, Step, More, Close, body_at, end_at, followed, no_rules, pattern_at, qualifiers_at, rule_at, rule_end, rule_from, rules_at}
use Rattle.rule.proofs.Laws.{Alike, alike, pattern-alike, rule-alike}
use Rattle.statement.specs.Steps.{Counted, Start, Closing, Starting, counted, counted_end, rule_then, rules_from, start_at, step_from}

-- ---- a fault is refused

pub judged-bad : (n p : ℕ) → (n ≡ 0 → ⊥) → judged n p ≡ Refused n p
judged-bad zero p h = absurd (h refl)
judged-bad (suc n) p h = refl

-- ---- all rules, by what stands first

module _ (fault : List ℕ → ℕ) (s : List ℕ) (at : ℕ) where
  pub rules-more : (left : ℕ) {r : RuleRead} → rule_at fault s at ≡ Read (More r) → rules_at (suc left) fault s at ≡ followed r (rules_at left fault s r.next)
  unfolding rules_at
  rules-more left e = rw e

  pub rules-close : (left : ℕ) {n : ℕ} → rule_at fault s at ≡ Read (Close n) → rules_at (suc left) fault s at ≡ Read (no_rules n)
  unfolding rules_at
  rules-close left e = rw e

  pub rules-refused : (left : ℕ) {n p : ℕ} → rule_at fault s at ≡ Refused n p → rules_at (suc left) fault s at ≡ Refused n p
  unfolding rules_at
  rules-refused left e = rw e

  -- where no more rule is allowed
  pub rules-end : rules_at zero fault s at ≡ (end_at s at >>= λ n. Read (no_rules n))
  unfolding rules_at
  rules-end = refl

-- ---- rules counted, after k others

unfoldable pub counted_from : (k : ℕ) → Reading RulesRead → Reading Counted
counted_from k (Read r) = Read (record { count = k + length r.rules; next = r.next })
counted_from k (Refused n p) = Refused n p

same_count : {j k n : ℕ} → j ≡ k → ◌≡◌ {A = Reading Counted} (Read (record { count = j; next = n })) (Read (record { count = k; next = n }))
same_count {n = n} e = ap (λ (c : ℕ). Read (record { count = c; next = n })) e

pub from-none : (x : Reading RulesRead) → counted_from 0 x ≡ counted x
unfolding counted_from counted
from-none (Read r) = same_count (omega arith)
from-none (Refused n p) = refl

from-close : (k n : ℕ) → counted_from k (Read (no_rules n)) ≡ Read (record { count = k; next = n })
unfolding counted_from
from-close k n = same_count (omega arith)

from-refused : (k n p : ℕ) → counted_from k (Refused n p) ≡ Refused n p
unfolding counted_from
from-refused k n p = refl

from_more : (k : ℕ) (r : RuleRead) (x : Reading RulesRead) → counted_from k (followed r x) ≡ counted_from (k + 1) x
unfolding counted_from
from_more k r (Read m) = same_count (omega arith)
from_more k r (Refused n p) = refl

from_end : (k : ℕ) (x : Reading ℕ) → counted_from k (x >>= λ n. Read (no_rules n)) ≡ counted_end k x
unfolding counted_from
from_end k (Read n) = same_count (omega arith)
from_end k (Refused n p) = refl

module _ (fault : List ℕ → ℕ) (s : List ℕ) (at k : ℕ) where
  pub count-end : counted_from k (rules_at 0 fault s at) ≡ counted_end k (end_at s at)
  count-end = ap (counted_from k) (rules-end fault s at) ∙ from_end k (end_at s at)

  -- by what was read
  module _ (left : ℕ) where
    pub count-more : {r : RuleRead} → Read (More r) ≡ rule_at fault s at →
        counted_from k (rules_at (suc left) fault s at) ≡ counted_from (k + 1) (rules_at left fault s r.next)
    count-more {r} e = ap (counted_from k) (rules-more fault s at left (sym e)) ∙ from_more k r (rules_at left fault s r.next)

    pub count-close : {n : ℕ} → Read (Close n) ≡ rule_at fault s at → counted_from k (rules_at (suc left) fault s at) ≡ Read (record { count = k; next = n })
    count-close {n} e = ap (counted_from k) (rules-close fault s at left (sym e)) ∙ from-close k n

    pub count-refused : {n p : ℕ} → Refused n p ≡ rule_at fault s at → counted_from k (rules_at (suc left) fault s at) ≡ Refused n p
    count-refused {n} {p} e = ap (counted_from k) (rules-refused fault s at left (sym e)) ∙ from-refused k n p

-- ---- a rule is the same from where it stands

pub rule-standing : (fault : List ℕ → ℕ) (s : List ℕ) (at : ℕ) → rule_at fault s (standing s at) ≡ rule_at fault s at
unfolding rule_at body_at
rule-standing fault s at =
    let e : standing s (standing s at) ≡ standing s at = standing-settled s at in
    let h : Alike s (qualifiers_at s (standing s at)) (qualifiers_at s at) = alike s (standing s at) at e in
    λ i. read (starts_with (bytes "}") (drop (e i) s)) (e i) (pattern-alike s h i) (λ t. rule-alike fault s t h i)
  where
    read : Bool → ℕ → Reading Token → (Token → Reading RuleRead) → Reading Step
    read close place p f = elim close [ true ↦ Read (Close (place + 1)) | false ↦ p >>= λ t. f t >>= λ r. Read (More r) ]

-- ---- a rule, by what stands where it could start

start-step : (fault : List ℕ → ℕ) (s : List ℕ) (at : ℕ) → (start_at s at >>= step_from fault s) ≡ rule_at fault s at
unfolding start_at rule_at body_at
start-step fault s at = go (stands_at (bytes "}") s at) (pattern_at s (qualifiers_at s at))
  where
    q : Qualifiers
    q = qualifiers_at s at

    go : (b : Bool) (p : Reading Token) →
        ((elim b as (λ _. Reading Start) [ true ↦ Read (Closing (standing s at + 1)) | false ↦ p >>= λ t. Read (Starting q t) ]) >>= step_from fault s)
        ≡ (elim b as (λ _. Reading Step) [ true ↦ Read (Close (standing s at + 1)) | false ↦ p >>= λ t. rule_from fault s q t >>= λ r. Read (More r) ])
    go true p = refl
    go false (Read t) = refl
    go false (Refused n p) = refl

-- from where it stands
pub by-start : (fault : List ℕ → ℕ) (s : List ℕ) (at : ℕ) {place : ℕ} → place ≡ standing s at → {x : Reading Start} → x ≡ start_at s place →
    (x >>= step_from fault s) ≡ rule_at fault s at
by-start fault s at {place} e {x} f =
    ap (λ (y : Reading Start). y >>= step_from fault s) f
    ∙ start-step fault s place
    ∙ ap (rule_at fault s) e
    ∙ rule-standing fault s at

-- ---- what was read is read again without judging patterns

module _ (fault : List ℕ → ℕ) (s : List ℕ) where
  from-again : (q : Qualifiers) (t : Token) {r : RuleRead} → rule_from fault s q t ≡ Read r → rule_from (λ _. 0) s q t ≡ Read r
  unfolding rule_from
  from-again q t {r} e = go (fault t.content) e
    where
      go : (n : ℕ) → (judged n t.start >>= λ _. perms_at q.deny s t.next >>= λ p. rule_end s q t p) ≡ Read r →
          (perms_at q.deny s t.next >>= λ p. rule_end s q t p) ≡ Read r
      go zero f = f
      go (suc n) f = let z : ◌≡◌ {A = ℕ} 0 1 = cc in absurd (omega arith)

  pub rule-unjudged : (at : ℕ) {x : Step} → rule_at fault s at ≡ Read x → rule_at (λ _. 0) s at ≡ Read x
  unfolding rule_at body_at
  rule-unjudged at {x} e = go (stands_at (bytes "}") s at) (pattern_at s (qualifiers_at s at)) e
    where
      q : Qualifiers
      q = qualifiers_at s at

      rule : (t : Token) (y : Reading RuleRead) → rule_from fault s q t ≡ y → (y >>= λ r. Read (More r)) ≡ Read x → (rule_from (λ _. 0) s q t >>= λ r. Read (More r)) ≡ Read x
      rule t (Read r) f g = rw (from-again q t f) g
      rule t (Refused n p) f g = let z : ◌≡◌ {A = ℕ} 0 1 = cc in absurd (omega arith)

      go : (b : Bool) (p : Reading Token) →
          (elim b as (λ _. Reading Step) [ true ↦ Read (Close (standing s at + 1)) | false ↦ p >>= λ t. rule_from fault s q t >>= λ r. Read (More r) ]) ≡ Read x →
          (elim b as (λ _. Reading Step) [ true ↦ Read (Close (standing s at + 1)) | false ↦ p >>= λ t. rule_from (λ _. 0) s q t >>= λ r. Read (More r) ]) ≡ Read x
      go true p f = f
      go false (Read t) f = rule t (rule_from fault s q t) refl f
      go false (Refused n p) f = f

  -- rules that were all read
  pub rules-unjudged : (k at : ℕ) → length (rules_from k fault s at) ≡ k → rules_from k (λ _. 0) s at ≡ rules_from k fault s at
  unfolding rules_from
  rules-unjudged zero at e = refl
  rules-unjudged (suc k) at e = go (λ r. rules-unjudged k r.next) (rule_at fault s at) refl e
    where
      go : ((r : RuleRead) → length (rules_from k fault s r.next) ≡ k → rules_from k (λ _. 0) s r.next ≡ rules_from k fault s r.next) →
          (x : Reading Step) → rule_at fault s at ≡ x → length (rule_then (λ r. rules_from k fault s r.next) x) ≡ suc k →
          rule_then (λ r. rules_from k (λ _. 0) s r.next) (rule_at (λ _. 0) s at) ≡ rule_then (λ r. rules_from k fault s r.next) x
      go i (Read (More r)) f g = rw (rule-unjudged at f) (ap (λ (l : List Rule). r.rule ∷ l) (i r (omega arith)))
      go i (Read (Close n)) f g = absurd (omega arith)
      go i (Refused n p) f g = absurd (omega arith)
