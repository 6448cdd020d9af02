-- What is gathered rule by rule is the findings of the rules.
use Rattle.std.specs.Prelude.{if◌then◌else◌}
use Prim.Native.Nat.{ℕ, suc, ◌<◌}
use mathlib.Core.Path.{◌≡◌, refl, sym, ap, ◌∙◌}
use mathlib.Core.List.{List, [], ◌∷◌, ◌++◌, append_assoc, append-nil}
use mathlib.Core.Bool.{Bool, true, false, not, ◌||◌, ◌&&◌, and-false, or-false}
use lib.Bits.{bit_or, or_zero_r}
use lib.ListN.{length}
use borrow.Author.Tests.{eq-eqb, le-leb, lt-leb}
use Rattle.scan.specs.Bytes.{some}
use Rattle.perms.specs.Sets.{has, set_of}
use Rattle.perms.proofs.Laws.{set-eq}
use Rattle.text.specs.Reading.{Reading, Read, Refused}
use Rattle.text.specs.declared.Place.{Place}
use Rattle.pattern.specs.Expansions.{Variable}
use Rattle.pattern.specs.Faults.{pattern_fault}
use Rattle.matcher.specs.Match.{matches_some, matches_exactly}
use Rattle.matcher.specs.Walk.{path_fits}
use Rattle.expand.specs.Write.{text_fits}
use Rattle.glob.specs.Glob.{matched_of}
use Rattle.glob.specs.declared.Matched.{Matched}
use Rattle.rule.specs.Rules.{Rule, Step, More, Close, rule_at}
use Rattle.rule.specs.Places.{rule_of}
use Rattle.text.specs.Places.{span_of}
use Rattle.rule.specs.declared.Rule as rule
use Rattle.statement.specs.Steps.{rule_then, rules_from}
use Rattle.family.specs.Members.{those, all, Choice, choice}
use Rattle.findings.specs.Findings.{Access, Move, Findings, allows, applies, audited, bits, denies, exactly, findings, join, move_by, moves, otherwise, same_move}
use Rattle.findings.specs.Weighed.{Weighed, allowing, denying, nothing, weighed, with_transition}
use Rattle.findings.proofs.Joining.{findings-append}
use Rattle.findings.proofs.Laws.{choice-by}
use Rattle.weigh.specs.Weigh.{Fits, gathered_of, weighed_by}
use Rattle.weigh.proofs.Sound.{All, Sound, rule-sound, rules-sound}

pub fitting : {text path : List ℕ} → Fits text path → (text_fits text && path_fits path) ≡ true
fitting {text} f = rw (le-leb (length text) 65535 f.short) f.fits

pub matched-fit : (text path : List ℕ) (vs : List Variable) (pattern : List ℕ) → (text_fits text && path_fits path) ≡ true → pattern_fault vs pattern ≡ 0 →
    matched_of text vs pattern path ≡ record { some = matches_some vs pattern path; exact = matches_exactly vs pattern path }
unfolding matched_of
matched-fit text path vs pattern e g = rw (e, eq-eqb (pattern_fault vs pattern) 0 g)

module _ (text : List ℕ) (vs : List Variable) (a : Access) (k at : ℕ) where
  pub gathered-long : 65535 < length text → gathered_of text vs a k at ≡ nothing
  unfolding gathered_of
  gathered-long h = rw (lt-leb (length text) 65535 h)

  pub gathered-far : 4095 < length a.path → gathered_of text vs a k at ≡ nothing
  unfolding gathered_of
  gathered-far h = rw (lt-leb (length a.path) 4095 h, and-false (text_fits text))

  pub gathered-fit : Fits text a.path → gathered_of text vs a k at ≡ weighed (findings vs a (rules_from k (pattern_fault vs) text at))
  unfolding gathered_of
  gathered-fit f = rw (fitting f)

-- ---- one rule more

module _ (vs : List Variable) (r : Rule) (h : Sound vs r) where
  -- the rule, where it matches
  abbrev only : Bool → List Rule
  only b = elim b as (λ _. List Rule) [ true ↦ r ∷ [] | false ↦ [] ]

  abbrev carrying : Bool → ℕ → ℕ
  carrying b n = if b then bit_or n r.perms.0 else n

  abbrev moving : Bool → Choice Move → Choice Move
  moving b c = if b then with_transition c r.transition r.target else c

  -- the bits of the rule alone
  bits_of : (b : Bool) → set_of 7 (λ k. (b && has r.perms.0 k) || false) ≡ (if b then r.perms.0 else 0)
  bits_of true = sym (set-eq 7 r.perms.0 (λ k. has r.perms.0 k || false) h.below (λ k l. sym (or-false (has r.perms.0 k))))
  bits_of false = refl

  bits-more : (p : Rule → Bool) (b : Bool) (n : ℕ) → bit_or n (bits p (only b)) ≡ carrying (b && p r) n
  unfolding bits some
  bits-more p true n = ap (bit_or n) (bits_of (p r)) ∙ go (p r)
    where
      go : (b : Bool) → bit_or n (if b then r.perms.0 else 0) ≡ carrying b n
      go true = refl
      go false = or_zero_r n
  bits-more p false n = or_zero_r n

  moves_more : (p : Rule → Bool) (b : Bool) (ms : List Move) → choice same_move (ms ++ moves p (only b)) ≡ moving (b && p r) (choice same_move ms)
  unfolding moves those all
  moves_more p true ms = go (p r)
    where
      go : (b : Bool) → choice same_move (ms ++ all (λ (r : Rule). move_by r.transition r.target) (only b)) ≡ moving b (choice same_move ms)
      go true = ap (λ (l : List Move). choice same_move (ms ++ l)) (append-nil (move_by r.transition r.target)) ∙ choice-by ms r.transition r.target
      go false = ap (choice same_move) (append-nil ms)
  moves_more p false ms = ap (choice same_move) (append-nil ms)

  module _ (q : Access) (f : Findings) where
    -- by whether the rule matches, denies, matches exactly
    by_kind : (b deny exact : Bool) →
        ◌≡◌ {A = Weighed} (record {
          allowed = carrying (b && not deny) f.allowed;
          allowed_audit = carrying (b && (not deny && r.audit)) f.allowed_audit;
          denied = carrying (b && deny) f.denied;
          denied_audit = carrying (b && (deny && r.audit)) f.denied_audit;
          exact = moving (b && (not deny && exact)) (choice same_move f.exact);
          others = moving (b && (not deny && not exact)) (choice same_move f.others);
        })
        (if b then (if deny then denying r (weighed f) else allowing exact r (weighed f)) else weighed f)
    unfolding denying allowing weighed
    by_kind true true exact = refl
    by_kind true false exact = refl
    by_kind false deny exact = refl

    weigh-joined : weighed (join f (findings vs q (r ∷ [])))
        ≡ weighed_by q.owner (record { some = matches_some vs r.pattern q.path; exact = matches_exactly vs r.pattern q.path }) r (weighed f)
    unfolding weighed join findings those weighed_by applies
    weigh-joined =
        (λ i. record {
          allowed = bits-more allows (applies vs q r) f.allowed i;
          allowed_audit = bits-more (audited allows) (applies vs q r) f.allowed_audit i;
          denied = bits-more denies (applies vs q r) f.denied i;
          denied_audit = bits-more (audited denies) (applies vs q r) f.denied_audit i;
          exact = moves_more (exactly vs q) (applies vs q r) f.exact i;
          others = moves_more (otherwise vs q) (applies vs q r) f.others i;
        })
        ∙ by_kind (applies vs q r) r.deny (matches_exactly vs r.pattern q.path)

    pub weigh-one : (text : List ℕ) → Fits text q.path →
        weighed_by q.owner (matched_of text vs r.pattern q.path) r (weighed f) ≡ weighed (join f (findings vs q (r ∷ [])))
    weigh-one text fits =
        let e : (text_fits text && path_fits q.path) ≡ true = fitting fits in
        ap (λ (m : Matched). weighed_by q.owner m r (weighed f)) (matched-fit text q.path vs r.pattern e h.good)
        ∙ sym weigh-joined

-- by what the code asks, where it found x
pub owner-turned : (a b : Bool) → (not a || b) ≡ not (a && not b)
owner-turned true true = refl
owner-turned true false = refl
owner-turned false b = refl

module _ (owner : Bool) (r : Rule) (w : Weighed) where
  pub weigh-not-owner : (m : Matched) → (r.owner && not owner) ≡ true → w ≡ weighed_by owner m r w
  unfolding weighed_by
  weigh-not-owner m o = rw (owner-turned r.owner owner, o)

  module _ {x m : Matched} (e : x ≡ m) (o : (r.owner && not owner) ≡ false) where
    pub weigh-unmatched : x.some ≡ false → w ≡ weighed_by owner m r w
    unfolding weighed_by
    weigh-unmatched s = rw (← e, owner-turned r.owner owner, o, s)

    pub weigh-denied : x.some ≡ true → r.deny ≡ true → denying r w ≡ weighed_by owner m r w
    unfolding weighed_by
    weigh-denied s d = rw (← e, owner-turned r.owner owner, o, s, d)

    pub weigh-allowed : x.some ≡ true → r.deny ≡ false → allowing x.exact r w ≡ weighed_by owner m r w
    unfolding weighed_by
    weigh-allowed s d = rw (← e, owner-turned r.owner owner, o, s, d)

-- ---- all rules

-- what rules add, one after the other
unfoldable pub gathered : (text : List ℕ) → List Variable → (path : List ℕ) → (owner : Bool) → List Rule → Weighed → Weighed
gathered text vs path owner [] w = w
gathered text vs path owner (r ∷ rs) w = gathered text vs path owner rs (weighed_by owner (matched_of text vs r.pattern path) r w)

module _ (text : List ℕ) (vs : List Variable) (q : Access) (fits : Fits text q.path) where
  abbrev gather : List Rule → Weighed → Weighed
  gather rs w = gathered text vs q.path q.owner rs w

  gathered-after : (done rs : List Rule) → All (Sound vs) rs → gather rs (weighed (findings vs q done)) ≡ weighed (findings vs q (done ++ rs))
  unfolding gathered
  gathered-after done [] h = ap (λ (l : List Rule). weighed (findings vs q l)) (sym (append-nil done))
  gathered-after done (r ∷ rs) h =
      ap (gather rs) (weigh-one vs r h.0 q (findings vs q done) text fits ∙ ap weighed (sym (findings-append vs q done (r ∷ []))))
      ∙ gathered-after (done ++ (r ∷ [])) rs h.1
      ∙ ap (λ (l : List Rule). weighed (findings vs q l)) (append_assoc done (r ∷ []) rs)

  none_found : nothing ≡ weighed (findings vs q [])
  unfolding weighed findings those all bits some moves choice
  none_found = refl

  pub gathered-findings : (rs : List Rule) → All (Sound vs) rs → gathered text vs q.path q.owner rs nothing ≡ weighed (findings vs q rs)
  gathered-findings rs h = ap (gather rs) none_found ∙ gathered-after [] rs h

  pub gathered-rules : (k at : ℕ) → gathered text vs q.path q.owner (rules_from k (pattern_fault vs) text at) nothing ≡ weighed (findings vs q (rules_from k (pattern_fault vs) text at))
  gathered-rules k at = gathered-findings (rules_from k (pattern_fault vs) text at) (rules-sound vs text k at)

-- ---- by what the code read

module _ (vs : List Variable) (s path : List ℕ) (owner : Bool) (at : ℕ) (w : Weighed) where
  pub gather-end : gathered s vs path owner (rules_from 0 (pattern_fault vs) s at) w ≡ w
  unfolding gathered rules_from
  gather-end = refl

  -- what is gathered from here on is what was read, and then the others
  from_step : (left : ℕ) {x : Reading Step} → x ≡ rule_at (pattern_fault vs) s at →
      gathered s vs path owner (rules_from (suc left) (pattern_fault vs) s at) w ≡ gathered s vs path owner (rule_then (λ r. rules_from left (pattern_fault vs) s r.next) x) w
  unfolding rules_from
  from_step left e = ap (λ (y : Reading Step). gathered s vs path owner (rule_then (λ r. rules_from left (pattern_fault vs) s r.next) y) w) (sym e)

  module _ (left : ℕ) where
    pub gather-more : (r : rule.Rule) (n : Place) → Read (More (record { rule = rule_of s r; next = n.0 })) ≡ rule_at (pattern_fault vs) s at →
        gathered s vs path owner (rules_from (suc left) (pattern_fault vs) s at) w
        ≡ gathered s vs path owner (rules_from left (pattern_fault vs) s n.0) (weighed_by owner (matched_of s vs (span_of s r.pattern) path) (rule_of s r) w)
    unfolding gathered
    gather-more r n e = from_step left e

    pub gather-close : {n : ℕ} → Read (Close n) ≡ rule_at (pattern_fault vs) s at → gathered s vs path owner (rules_from (suc left) (pattern_fault vs) s at) w ≡ w
    unfolding gathered
    gather-close e = from_step left e

    pub gather-refused : {n p : ℕ} → Refused n p ≡ rule_at (pattern_fault vs) s at → gathered s vs path owner (rules_from (suc left) (pattern_fault vs) s at) w ≡ w
    unfolding gathered
    gather-refused e = from_step left e

-- the pattern of a rule that was read has no fault
pub read-good : (vs : List Variable) (s : List ℕ) (at : ℕ) (r : rule.Rule) (n : Place) → Read (More (record { rule = rule_of s r; next = n.0 })) ≡ rule_at (pattern_fault vs) s at
    → pattern_fault vs (span_of s r.pattern) ≡ 0
read-good vs s at r n e = (rule-sound vs s at (record { rule = rule_of s r; next = n.0 }) (sym e)).good
