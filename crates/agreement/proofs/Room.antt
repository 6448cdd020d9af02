-- Room for rules: a text that was read means the same file wherever there is room for its rules, and is refused 9 where there is not.
use Prim.Native.Nat.{ℕ, zero, suc, ◌+◌, ◌-◌, ◌≤◌, ◌<◌}
use native.Mathlib.Omega.{arith}
use mathlib.Core.Path.{◌≡◌, refl, sym, subst}
use mathlib.Core.List.{List, [], ◌∷◌}
use mathlib.Core.Bool.{Bool, true, false}
use lib.ListN.{length}
use Rattle.scan.specs.Bytes.{bytes}
use Rattle.text.specs.Reading.{Reading, Read, Refused, ◌>>=◌}
use Rattle.blanks.specs.Blanks.{standing, stands_at}
use Rattle.tokens.specs.Tokens.{Token, no_stop, token_at}
use Rattle.pattern.specs.Expansions.{Variable}
use Rattle.pattern.specs.Faults.{pattern_fault}
use Rattle.rule.specs.Rules.{RuleRead, RulesRead, Step, More, Close, body_at, end_at, no_rules, pattern_at, qualifiers_at, rule_at, rule_from, rules_at, step_then}
use Rattle.heads.specs.Heads.{Head, head_at}
use Rattle.preamble.specs.Preamble.{Preamble, preamble_at}
use Rattle.profile.specs.Profiles.{File, OneProfile, Profile, ends, one_profile, profile_at, profiles_at, unless_end, file_within, rules_in}
use Rattle.laws.proofs.Steps.{never, inner, step}

-- so many rules, where there is room for some: the same is read, or 9 is refused
data Outcome {A : Type 0} (room count : ℕ) (a : A) : Reading A → Type 0 where
  fits : count ≤ room → Outcome room count a (Read a)
  short : {p : ℕ} → room < count → Outcome room count a (Refused 9 p)

-- it is put into something
put : {A B : Type 0} {room count room' count' : ℕ} {a : A} {x : Reading A} (f : A → B) → (count ≤ room → count' ≤ room') → (room < count → room' < count')
    → Outcome room count a x → Outcome room' count' (f a) (x >>= λ a. Read (f a))
put f g h (fits l) = fits (g l)
put f g h (short l) = short (h l)

-- more is read behind it, with the room that is left
onward : {A B : Type 0} {room count more : ℕ} {a : A} {b : B} {x : Reading A} (k : A → Reading B) → Outcome room count a x → Outcome (room - count) more b (k a)
    → Outcome room (count + more) b (x >>= k)
onward k (short l) o = short (omega arith)
onward {A} {B} {room} {count} {more} {a} {b} k (fits l) o = go o
  where
    go : {y : Reading B} → Outcome (room - count) more b y → Outcome room (count + more) b y
    go (fits h) = fits (omega arith)
    go (short h) = short (omega arith)

-- ---- rules

module _ (fault : List ℕ → ℕ) (s : List ℕ) (at : ℕ) where
  -- what stands there, with room for a rule and without
  abbrev step_for : (b : Bool) → Reading Token → Reading Step
  step_for b x =
      elim b as (λ _. Reading Step) [ true ↦ Read (Close (standing s at + 1)) | false ↦ x >>= λ t. rule_from fault s (qualifiers_at s at) t >>= λ r. Read (More r) ]

  abbrev end_for : (b : Bool) → Reading Token → Reading ℕ
  end_for b x = elim b as (λ _. Reading ℕ) [ true ↦ Read (standing s at + 1) | false ↦ x >>= λ t. Refused 9 t.start ]

  -- the } needs no room
  end-close : (n : ℕ) → end_at s at ≡ Read n → rule_at fault s at ≡ Read (Close n)
  unfolding end_at rule_at body_at
  end-close n e = go (stands_at (bytes "}") s at) (pattern_at s (qualifiers_at s at)) e
    where
      go : (b : Bool) (x : Reading Token) → end_for b x ≡ Read n → step_for b x ≡ Read (Close n)
      go true x e = cc
      go false (Read t) e = absurd (never e)
      go false (Refused m p) e = absurd (never e)

  no-close : (n : ℕ) (x : Reading RuleRead) → (x >>= λ r. Read (More r)) ≡ Read (Close n) → ⊥
  no-close n (Read r) e = let z : ◌≡◌ {A = ℕ} 0 1 = cc in omega arith
  no-close n (Refused m p) e = never e

  close-end : (n : ℕ) → rule_at fault s at ≡ Read (Close n) → end_at s at ≡ Read n
  unfolding end_at rule_at body_at
  close-end n e = go (stands_at (bytes "}") s at) (pattern_at s (qualifiers_at s at)) e
    where
      go : (b : Bool) (x : Reading Token) → step_for b x ≡ Read (Close n) → end_for b x ≡ Read n
      go true x e = cc
      go false (Read t) e = absurd (no-close n (rule_from fault s (qualifiers_at s at) t) e)
      go false (Refused m p) e = absurd (never e)

  -- "9 for being one rule too many"
  more-end : (r : RuleRead) → rule_at fault s at ≡ Read (More r) → (p : ℕ) × (end_at s at ≡ Refused 9 p)
  unfolding end_at rule_at body_at
  more-end r e = go (stands_at (bytes "}") s at) (pattern_at s (qualifiers_at s at)) e
    where
      go : (b : Bool) (x : Reading Token) → step_for b x ≡ Read (More r) → (p : ℕ) × (end_for b x ≡ Refused 9 p)
      go true x e = let z : ◌≡◌ {A = ℕ} 0 1 = cc in absurd (omega arith)
      go false (Read t) e = (t.start, refl)
      go false (Refused m p) e = absurd (never e)

abbrev RulesRoom : (List ℕ → ℕ) → List ℕ → (at room : ℕ) → RulesRead → Type 0
RulesRoom fault s at room r = Outcome room (length r.rules) r (rules_at room fault s at)

module _ (fault : List ℕ → ℕ) (s : List ℕ) where
  no-rules : (room at n : ℕ) → end_at s at ≡ Read n → RulesRoom fault s at room (no_rules n)
  unfolding rules_at
  no-rules zero at n e = rw e (fits (omega arith))
  no-rules (suc room) at n e = rw (end-close fault s at n e) (fits (omega arith))

  one-rule : (room at : ℕ) (x : RuleRead) (m : RulesRead) → rule_at fault s at ≡ Read (More x) → ((room : ℕ) → RulesRoom fault s x.next room m)
      → RulesRoom fault s at room (record { rules = x.rule ∷ m.rules; next = m.next })
  unfolding rules_at
  one-rule zero at x m e h = let w = more-end fault s at x e in rw w.1 (short (omega arith))
  one-rule (suc room) at x m e h =
      rw e (put (λ (m : RulesRead). record { rules = x.rule ∷ m.rules; next = m.next }) (λ l. omega arith) (λ l. omega arith) (h room))

  rules-room : (left at : ℕ) (r : RulesRead) → rules_at left fault s at ≡ Read r → (room : ℕ) → RulesRoom fault s at room r
  unfolding rules_at
  rules-room zero at r e room =
      let w = step (end_at s at) (λ n. Read (no_rules n)) r e in
      subst (RulesRoom fault s at room) (sym (inner w.2)) (no-rules room at w.0 w.1)
  rules-room (suc left) at r e room = let w = step (rule_at fault s at) (step_then (λ r. rules_at left fault s r.next)) r e in go (rules-room left) w.0 w.1 w.2
    where
      go : ((next : ℕ) (m : RulesRead) → rules_at left fault s next ≡ Read m → (room : ℕ) → RulesRoom fault s next room m)
          → (x : Step) → rule_at fault s at ≡ Read x → step_then (λ r. rules_at left fault s r.next) x ≡ Read r → RulesRoom fault s at room r
      go more (More x) f q =
          let v = step (rules_at left fault s x.next) (λ m. Read (record { rules = x.rule ∷ m.rules; next = m.next })) r q in
          subst (RulesRoom fault s at room) (sym (inner v.2)) (one-rule room at x v.0 f (more x.next v.0 v.1))
      go more (Close n) f q = subst (RulesRoom fault s at room) (sym (inner q)) (no-rules room at n (close-end fault s at n f))

-- ---- profiles

-- a profile has as many rules as it counts
record ProfileRoom (full : Bool) (used : List (List ℕ)) (vs : List Variable) (s : List ℕ) (at : ℕ) (x : OneProfile) : Type 0 where
  counted : x.count ≡ length x.profile.rules
  outcome : (room : ℕ) → Outcome room x.count x (profile_at full room used vs s at)

abbrev ProfilesRoom : (used : List (List ℕ)) → List Variable → List ℕ → (k at room : ℕ) → List Profile → Type 0
ProfilesRoom used vs s k at room ps = Outcome room (rules_in ps) ps (profiles_at k room used vs s at)

module _ (vs : List Variable) (s : List ℕ) where
  one-profile : (full : Bool) (used : List (List ℕ)) (at : ℕ) (h : Head) (rs : RulesRead) → head_at full used s at ≡ Read h
      → ((room : ℕ) → RulesRoom (pattern_fault vs) s h.next room rs) → ProfileRoom full used vs s at (one_profile h.name rs)
  unfolding profile_at
  one-profile full used at h rs e f = record { counted = refl; outcome = λ room. rw e (put (one_profile h.name) (λ l. l) (λ l. l) (f room)) }

  profile-room : (full : Bool) (left : ℕ) (used : List (List ℕ)) (at : ℕ) (x : OneProfile) → profile_at full left used vs s at ≡ Read x → ProfileRoom full used vs s at x
  unfolding profile_at
  profile-room full left used at x e =
      let w = step (head_at full used s at) (λ h. rules_at left (pattern_fault vs) s h.next >>= λ rs. Read (one_profile h.name rs)) x e in
      let v = step (rules_at left (pattern_fault vs) s w.0.next) (λ rs. Read (one_profile w.0.name rs)) x w.2 in
      subst (ProfileRoom full used vs s at) (sym (inner v.2))
      (one-profile full used at w.0 v.0 w.1 (λ room. rules-room (pattern_fault vs) s left w.0.next v.0 v.1 room))

  no-profiles : (k : ℕ) (used : List (List ℕ)) (at room : ℕ) → ends (token_at no_stop s at) ≡ true → ProfilesRoom used vs s k at room []
  unfolding profiles_at unless_end rules_in
  no-profiles zero used at room e = rw (e, unless_end) (fits (omega arith))
  no-profiles (suc k) used at room e = rw (e, unless_end) (fits (omega arith))

  more-profiles : (k : ℕ) (used : List (List ℕ)) (at room : ℕ) (x : OneProfile) (ps : List Profile) → ends (token_at no_stop s at) ≡ false → ProfileRoom false used vs s at x
      → ((room : ℕ) → ProfilesRoom (x.profile.name ∷ used) vs s k x.next room ps) → ProfilesRoom used vs s (suc k) at room (x.profile ∷ ps)
  unfolding profiles_at unless_end rules_in
  more-profiles k used at room x ps e h f =
      rw (e, unless_end, ← h.counted)
      (onward (λ (x : OneProfile). profiles_at k (room - x.count) (x.profile.name ∷ used) vs s x.next >>= λ more. Read (x.profile ∷ more)) (h.outcome room)
      (put (λ (more : List Profile). x.profile ∷ more) (λ l. l) (λ l. l) (f (room - x.count))))

  profiles-room : (k left : ℕ) (used : List (List ℕ)) (at : ℕ) (ps : List Profile) → profiles_at k left used vs s at ≡ Read ps → (room : ℕ) → ProfilesRoom used vs s k at room ps
  unfolding profiles_at unless_end
  profiles-room zero left used at ps e room = go (ends (token_at no_stop s at)) refl e
    where
      go : (b : Bool) → ends (token_at no_stop s at) ≡ b
          → (elim b as (λ _. Reading (List Profile)) [ true ↦ Read [] | false ↦ profile_at true left used vs s at >>= λ x. Refused 9 at ]) ≡ Read ps → ProfilesRoom used vs s 0 at room ps
      go true f q = subst (ProfilesRoom used vs s 0 at room) (sym (inner q)) (no-profiles 0 used at room f)
      go false f q = absurd (never (step (profile_at true left used vs s at) (λ x. Refused 9 at) ps q).2)
  profiles-room (suc k) left used at ps e room =
      go (λ (x : OneProfile). profiles-room k (left - x.count) (x.profile.name ∷ used) x.next) (ends (token_at no_stop s at)) refl e
    where
      rest : OneProfile → Reading (List Profile)
      rest x = profiles_at k (left - x.count) (x.profile.name ∷ used) vs s x.next

      go : ((x : OneProfile) (more : List Profile) → rest x ≡ Read more → (room : ℕ) → ProfilesRoom (x.profile.name ∷ used) vs s k x.next room more)
          → (b : Bool) → ends (token_at no_stop s at) ≡ b
          → (elim b as (λ _. Reading (List Profile)) [ true ↦ Read [] | false ↦ profile_at false left used vs s at >>= λ x. rest x >>= λ more. Read (x.profile ∷ more) ]) ≡ Read ps
          → ProfilesRoom used vs s (suc k) at room ps
      go i true f q = subst (ProfilesRoom used vs s (suc k) at room) (sym (inner q)) (no-profiles (suc k) used at room f)
      go i false f q =
          let w = step (profile_at false left used vs s at) (λ x. rest x >>= λ more. Read (x.profile ∷ more)) ps q in
          let v = step (rest w.0) (λ more. Read (w.0.profile ∷ more)) ps w.2 in
          subst (ProfilesRoom used vs s (suc k) at room) (sym (inner v.2))
          (more-profiles k used at room w.0 v.0 f (profile-room false left used at w.0 w.1) (i w.0 v.0 v.1))

-- ---- a whole text

abbrev FileRoom : List ℕ → (room : ℕ) → File → Type 0
FileRoom s room f = Outcome room (rules_in f.profiles) f (file_within room s)

one-file : (s : List ℕ) (room : ℕ) (p : Preamble) (ps : List Profile) → preamble_at 512 [] s 0 ≡ Read p → ProfilesRoom [] p.variables s 32 p.next room ps
    → FileRoom s room (record { preamble = p.assignments; profiles = ps })
unfolding file_within
one-file s room p ps e o = rw e (put (λ (ps : List Profile). record { preamble = p.assignments; profiles = ps }) (λ l. l) (λ l. l) o)

file-room : (left : ℕ) (s : List ℕ) (f : File) → file_within left s ≡ Read f → (room : ℕ) → Outcome room (rules_in f.profiles) f (file_within room s)
unfolding file_within
file-room left s f e room =
    let w = step (preamble_at 512 [] s 0) (λ (p : Preamble). profiles_at 32 left [] p.variables s p.next >>= λ ps. Read (record { preamble = p.assignments; profiles = ps })) f e in
    let v = step (profiles_at 32 left [] w.0.variables s w.0.next) (λ ps. Read (record { preamble = w.0.assignments; profiles = ps })) f w.2 in
    subst (FileRoom s room) (sym (inner v.2)) (one-file s room w.0 v.0 w.1 (profiles-room w.0.variables s 32 left [] w.0.next v.0 v.1 room))

-- there was room for what was read
few : {A : Type 0} {room count : ℕ} {a : A} {x : Reading A} → Outcome room count a x → x ≡ Read a → count ≤ room
few (fits l) e = l
few (short l) e = absurd (never e)

-- with room the same is read
enough : {A : Type 0} {room count : ℕ} {a : A} {x : Reading A} → Outcome room count a x → count ≤ room → x ≡ Read a
enough (fits l) h = refl
enough (short l) h = absurd (omega arith)

nine : {A : Type 0} {room count : ℕ} {a : A} {x : Reading A} → Outcome room count a x → room < count → (p : ℕ) × (x ≡ Refused 9 p)
nine (fits l) h = absurd (omega arith)
nine (short {p = p} l) h = (p, refl)

module _ (left : ℕ) (s : List ℕ) (f : File) (e : file_within left s ≡ Read f) where
  pub room-few : rules_in f.profiles ≤ left
  room-few = few (file-room left s f e left) e

  module _ (room : ℕ) where
    pub room-enough : rules_in f.profiles ≤ room → file_within room s ≡ Read f
    room-enough = enough (file-room left s f e room)

    pub room-more : left ≤ room → file_within room s ≡ Read f
    room-more h = let l : rules_in f.profiles ≤ left = room-few in room-enough (omega arith)

    pub room-short : room < rules_in f.profiles → (p : ℕ) × (file_within room s ≡ Refused 9 p)
    room-short = nine (file-room left s f e room)
