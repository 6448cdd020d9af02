-- What the definitions of profiles say, by what stands first, and what a store changes in the table of profiles.
use Prim.Native.Nat.{ℕ, zero, suc, ◌+◌, ◌*◌, ◌-◌, ◌≤◌, ◌<◌}
use mathlib.Core.Path.{◌≡◌, refl, ap, ap₂, sym, ◌∙◌}
use mathlib.Core.List.{List, [], ◌∷◌, ◌++◌, append_assoc, append-nil}
use mathlib.Core.Bool.{Bool, true, false}
use lib.ListN.{length, get_or, set, length-set}
use lib.Seq.{get_or-set_same, get_or-set_other}
use lib.Dec.{leb}
use native.Mathlib.Numerals.{add-one}
use native.Mathlib.Omega.{arith}
use borrow.Author.Tests.{le-leb, leb-false, lt-leb}
use Rattle.scan.specs.Bytes.{span}
use Rattle.text.specs.Reading.{Reading, Read, Refused, ◌>>=◌, refuse_if, refusal_at}
use Rattle.tokens.specs.Tokens.{Token, no_stop, token_at}
use Rattle.blanks.specs.Blanks.{standing}
use Rattle.keywords.specs.Keywords.{first_word, not_taken}
use Rattle.text.specs.declared.Place.{Place}
use Rattle.tokens.specs.Places.{seen}
use Rattle.tokens.specs.declared.Read as tokens
use Rattle.tokens.specs.declared.Read.TheVariants as read
use Rattle.text.specs.declared.Stop.{Stop}
use Rattle.pattern.specs.Expansions.{Variable}
use Rattle.pattern.specs.Faults.{pattern_fault}
use Rattle.pattern.specs.Table.{bytes_at, env}
use Rattle.rule.specs.Rules.{Rule, RuleRead, RulesRead, Step, More, Close, end_at, followed, no_rules, rule_at, rules_at, step_then}
use Rattle.text.specs.Places.{refused_by, span_of}
use Rattle.text.specs.declared.Span.{Span}
use Rattle.statement.specs.Steps.{Counted, counted, rules_from}
use Rattle.statement.proofs.Laws.{rules-unjudged}
use Rattle.preamble.specs.Variables.{final_sets}
use Rattle.preamble.specs.Preamble.{Preamble, preamble_at}
use Rattle.preamble.specs.Places.{State, preamble_of, seen_preamble}
use Rattle.preamble.specs.declared.Preamble.{Preamble as PreambleRead}
use Rattle.preamble.proofs.Laws.{preamble-sets}
use Rattle.heads.specs.Heads.{Head, head_at, name_at}
use Rattle.heads.specs.Places.{names_of}
use Rattle.heads.specs.declared.Head as head
use Rattle.profile.specs.Profiles.{OneProfile, Profile, ends, file_within, one_profile, profile_at, profiles_at, rule_count, rules_in, unless_end}
use Rattle.profile.specs.Places.{FileKept, Judged, Accepted, Kept, Rejected, OneMore, judged_of, profile_of, profiles_again, profiles_by, profiles_from, profiles_of, rules_read, seen_file, seen_profile, seen_profiles}
use Rattle.profile.specs.declared.Profiles.{Profiles}
use Rattle.profile.specs.declared.ProfileRead.{ProfileRead}
use Rattle.std.proofs.Common.{Ok, Err}
use Rattle.profile.specs.declared.ProfilesRead.{ProfilesRead}
use Rattle.profile.specs.declared.FileRead.{FileRead}

-- where a token stands, or is refused, the text does not end
pub not-end : (s : List ℕ) (r : tokens.Read) → ((p : Place) → r ≡ read.End p → ⊥) → ends (seen s r) ≡ false
unfolding seen
not-end s (read.Found t) h = refl
not-end s (read.Stopped stop) h = refl
not-end s (read.End p) h = absurd (h p refl)

-- ---- heads

-- where no more profile is allowed, no head is read
head-full : (used : List (List ℕ)) (s : List ℕ) (at : ℕ) {h : Head} → head_at true used s at ≡ Read h → ⊥
unfolding head_at
head-full used s at {h} e = go (refuse_if (first_word not_taken s at) 5 (standing s at)) (name_at s at) e
  where
    go : (x : Reading (Unit {0})) (y : Reading Token) → (x >>= λ _. y >>= λ t. ◌>>=◌ {A = Head} (Refused 9 t.start) Read) ≡ Read h → ⊥
    go (Read u) (Read t) q = let z : ◌≡◌ {A = ℕ} 0 1 = cc in omega arith
    go (Read u) (Refused n p) q = let z : ◌≡◌ {A = ℕ} 0 1 = cc in omega arith
    go (Refused n p) y q = let z : ◌≡◌ {A = ℕ} 0 1 = cc in omega arith

-- ---- rules read again, one at a time

-- as many as were read, which are no more than allowed
abbrev Again : (left : ℕ) → (List ℕ → ℕ) → List ℕ → ℕ → RulesRead → Type 0
Again left fault s at rs = (rules_from (length rs.rules) fault s at ≡ rs.rules) × (length rs.rules ≤ left)

rules-again : (left : ℕ) (fault : List ℕ → ℕ) (s : List ℕ) (at : ℕ) (rs : RulesRead) → rules_at left fault s at ≡ Read rs → Again left fault s at rs
unfolding rules_from rules_at
rules-again zero fault s at rs e = go (end_at s at) e
  where
    go : (x : Reading ℕ) → (x >>= λ n. Read (no_rules n)) ≡ Read rs → Again 0 fault s at rs
    go (Read n) q = let k : rs ≡ no_rules n = cc in rw k (refl, omega arith)
    go (Refused n p) q = let z : ◌≡◌ {A = ℕ} 0 1 = cc in absurd (omega arith)
rules-again (suc left) fault s at rs e = go (λ r. rules-again left fault s r.next) (rule_at fault s at) refl e
  where
    more : (r : RuleRead) → ((m : RulesRead) → rules_at left fault s r.next ≡ Read m → Again left fault s r.next m) → rule_at fault s at ≡ Read (More r) →
        (y : Reading RulesRead) → rules_at left fault s r.next ≡ y → followed r y ≡ Read rs → Again (suc left) fault s at rs
    more r i f (Read m) g q =
        let k : rs ≡ record { rules = r.rule ∷ m.rules; next = m.next } = cc in
        rw k (rw (f, (i m g).0), omega (arith, (i m g).1))
    more r i f (Refused n p) g q = let z : ◌≡◌ {A = ℕ} 0 1 = cc in absurd (omega arith)

    go : ((r : RuleRead) (m : RulesRead) → rules_at left fault s r.next ≡ Read m → Again left fault s r.next m) →
        (x : Reading Step) → rule_at fault s at ≡ x → (x >>= step_then (λ r. rules_at left fault s r.next)) ≡ Read rs → Again (suc left) fault s at rs
    go i (Read (More r)) f q = more r (i r) f (rules_at left fault s r.next) refl q
    go i (Read (Close n)) f q = let k : rs ≡ no_rules n = cc in rw k (refl, omega arith)
    go i (Refused n p) f q = let z : ◌≡◌ {A = ℕ} 0 1 = cc in absurd (omega arith)

-- ---- one profile

module _ (full : Bool) (left : ℕ) (used : List (List ℕ)) (vs : List Variable) (s : List ℕ) (at : ℕ) where
  profile-refused : {n p : ℕ} → head_at full used s at ≡ Refused n p → profile_at full left used vs s at ≡ Refused n p
  unfolding profile_at
  profile-refused e = rw (e, profile_at)

  module _ (h : Head) (e : head_at full used s at ≡ Read h) where
    profile-rules-refused : {n p : ℕ} → counted (rules_at left (pattern_fault vs) s h.next) ≡ Refused n p → profile_at full left used vs s at ≡ Refused n p
    unfolding profile_at counted
    profile-rules-refused {n} {p} f = rw (e, profile_at) (go (rules_at left (pattern_fault vs) s h.next) f)
      where
        go : (x : Reading RulesRead) → counted x ≡ Refused n p → (x >>= λ rs. Read (one_profile h.name rs)) ≡ Refused n p
        go (Read rs) q = let z : ◌≡◌ {A = ℕ} 0 1 = cc in absurd (omega arith)
        go (Refused m r) q = cc

    profile-good : {k n : ℕ} → counted (rules_at left (pattern_fault vs) s h.next) ≡ Read (record { count = k; next = n }) →
        profile_at full left used vs s at ≡ Read (record { profile = record { name = h.name; rules = rules_from k (pattern_fault vs) s h.next }; count = k; next = n })
    unfolding profile_at counted
    profile-good {k} {n} f = rw (e, profile_at) (go (rules_at left (pattern_fault vs) s h.next) refl f)
      where
        go : (x : Reading RulesRead) → rules_at left (pattern_fault vs) s h.next ≡ x → counted x ≡ Read (record { count = k; next = n }) →
            (x >>= λ rs. Read (one_profile h.name rs))
            ≡ Read (record { profile = record { name = h.name; rules = rules_from k (pattern_fault vs) s h.next }; count = k; next = n })
        go (Read rs) r q =
            let c : ◌≡◌ {A = Counted} (record { count = length rs.rules; next = rs.next }) (record { count = k; next = n }) = cc in
            let i : k ≡ length rs.rules = ap (λ (x : Counted). x.count) (sym c) in
            let j : n ≡ rs.next = ap (λ (x : Counted). x.next) (sym c) in
            rw (i, j, (rules-again left (pattern_fault vs) s h.next rs r).0)
        go (Refused m p) r q = let z : ◌≡◌ {A = ℕ} 0 1 = cc in absurd (omega arith)

  -- by the head and the rules that were read
  pub by-head-refused : (stop : Stop) → refused_by stop ≡ head_at full used s at → profile_at full left used vs s at ≡ refused_by stop
  by-head-refused stop e = profile-refused (sym e)

  module _ (h : head.Head) (e : Read (record { name = span_of s h.name; next = h.next.0 }) ≡ head_at full used s at) where
    pub by-rules-refused : (stop : Stop) → refused_by stop ≡ counted (rules_at left (pattern_fault vs) s h.next.0) → profile_at full left used vs s at ≡ refused_by stop
    by-rules-refused stop f = profile-rules-refused (record { name = span_of s h.name; next = h.next.0 }) (sym e) (sym f)

    pub by-rules-good : (k : ℕ) (past : Place) → Read (record { count = k; next = past.0 }) ≡ counted (rules_at left (pattern_fault vs) s h.next.0) →
        profile_at full left used vs s at ≡ Read (record { profile = record { name = span_of s h.name; rules = rules_from k (pattern_fault vs) s h.next.0 }; count = k; next = past.0 })
    by-rules-good k past f = profile-good (record { name = span_of s h.name; next = h.next.0 }) (sym e) (sym f)

  profile-left : {x : OneProfile} → profile_at full left used vs s at ≡ Read x → x.count ≤ left
  unfolding profile_at
  profile-left {x} e = go (head_at full used s at) e
    where
      rules : (h : Head) (y : Reading RulesRead) → rules_at left (pattern_fault vs) s h.next ≡ y → (y >>= λ rs. Read (one_profile h.name rs)) ≡ Read x → x.count ≤ left
      rules h (Read rs) f q = let k : x ≡ one_profile h.name rs = cc in rw k (rules-again left (pattern_fault vs) s h.next rs f).1
      rules h (Refused n p) f q = let z : ◌≡◌ {A = ℕ} 0 1 = cc in absurd (omega arith)

      go : (y : Reading Head) → (y >>= λ h. rules_at left (pattern_fault vs) s h.next >>= λ rs. Read (one_profile h.name rs)) ≡ Read x → x.count ≤ left
      go (Read h) q = rules h (rules_at left (pattern_fault vs) s h.next) refl q
      go (Refused n p) q = let z : ◌≡◌ {A = ℕ} 0 1 = cc in absurd (omega arith)

  profile-count : {x : OneProfile} → profile_at full left used vs s at ≡ Read x → length x.profile.rules ≡ x.count
  unfolding profile_at
  profile-count {x} e = go (head_at full used s at) e
    where
      rules : (h : Head) (y : Reading RulesRead) → (y >>= λ rs. Read (one_profile h.name rs)) ≡ Read x → length x.profile.rules ≡ x.count
      rules h (Read rs) q = let k : x ≡ one_profile h.name rs = cc in rw k
      rules h (Refused n p) q = let z : ◌≡◌ {A = ℕ} 0 1 = cc in absurd (omega arith)

      go : (y : Reading Head) → (y >>= λ h. rules_at left (pattern_fault vs) s h.next >>= λ rs. Read (one_profile h.name rs)) ≡ Read x → length x.profile.rules ≡ x.count
      go (Read h) q = rules h (rules_at left (pattern_fault vs) s h.next) q
      go (Refused n p) q = let z : ◌≡◌ {A = ℕ} 0 1 = cc in absurd (omega arith)

-- ---- all profiles, by what stands first

-- profiles read before others
unfoldable pub after : List Profile → Reading (List Profile) → Reading (List Profile)
after ps (Read more) = Read (ps ++ more)
after ps (Refused n p) = Refused n p

after_none : (x : Reading (List Profile)) → after [] x ≡ x
unfolding after
after_none (Read ps) = refl
after_none (Refused n p) = refl

-- a profile and those that follow it
abbrev joined : Profile → Reading (List Profile) → Reading (List Profile)
joined p x = x >>= λ more. Read (p ∷ more)

after_one : (ps : List Profile) (p : Profile) (x : Reading (List Profile)) → after ps (joined p x) ≡ after (ps ++ (p ∷ [])) x
unfolding after
after_one ps p (Read more) = ap Read (sym (append_assoc ps (p ∷ []) more))
after_one ps p (Refused n q) = refl

module _ (rules_left : ℕ) (used : List (List ℕ)) (vs : List Variable) (s : List ℕ) (at : ℕ) where
  profiles-end : (left : ℕ) → ends (token_at no_stop s at) ≡ true → profiles_at left rules_left used vs s at ≡ Read []
  unfolding profiles_at unless_end
  profiles-end zero e = rw (e, unless_end)
  profiles-end (suc left) e = rw (e, unless_end)

  module _ (e : ends (token_at no_stop s at) ≡ false) where
    abbrev onward-from : (left : ℕ) → OneProfile → Reading (List Profile)
    onward-from left x = joined x.profile (profiles_at left (rules_left - x.count) (x.profile.name ∷ used) vs s x.next)

    profiles-by : (left : ℕ) → profiles_at (suc left) rules_left used vs s at ≡ (profile_at false rules_left used vs s at >>= onward-from left)
    unfolding profiles_at unless_end
    profiles-by left = rw (e, unless_end)

    profiles-full : {n p : ℕ} → profile_at true rules_left used vs s at ≡ Refused n p → profiles_at zero rules_left used vs s at ≡ Refused n p
    unfolding profiles_at unless_end
    profiles-full f = rw (e, unless_end, f)

  profile-full : {x : OneProfile} → profile_at true rules_left used vs s at ≡ Read x → ⊥
  unfolding profile_at
  profile-full {x} f = go (head_at true used s at) refl f
    where
      go : (y : Reading Head) → head_at true used s at ≡ y → (y >>= λ h. rules_at rules_left (pattern_fault vs) s h.next >>= λ rs. Read (one_profile h.name rs)) ≡ Read x → ⊥
      go (Read h) r q = head-full used s at r
      go (Refused n p) r q = let z : ◌≡◌ {A = ℕ} 0 1 = cc in omega arith

-- ---- where n profiles are known

-- the profiles of a table, and those read from a place on
abbrev pub read_from : List Variable → List ℕ → Profiles → (rules_left at : ℕ) → Reading (List Profile)
read_from vs s p rules_left at =
    after (profiles_from vs s p.table p.count 0) (profiles_at (32 - p.count) rules_left (names_of s p.table p.count) vs s at)

-- the profile at a place, where those of a table are known
abbrev pub next_of : List Variable → List ℕ → Profiles → (rules_left at : ℕ) → Reading OneProfile
next_of vs s p rules_left at = profile_at (leb 32 p.count) rules_left (names_of s p.table p.count) vs s at

module _ (vs : List Variable) (s : List ℕ) (p : Profiles) (left at : ℕ) where
  pub read_none : p.count ≡ 0 → read_from vs s p left at ≡ profiles_at 32 left [] vs s at
  unfolding profiles_by names_of
  read_none e =
      ap (λ (n : ℕ). after (profiles_from vs s p.table n 0) (profiles_at (32 - n) left (names_of s p.table n) vs s at)) e
      ∙ after_none (profiles_at 32 left [] vs s at)

  pub read-end : ends (token_at no_stop s at) ≡ true → read_from vs s p left at ≡ Read (profiles_from vs s p.table p.count 0)
  unfolding after
  read-end e =
      ap (after (profiles_from vs s p.table p.count 0)) (profiles-end left (names_of s p.table p.count) vs s at (32 - p.count) e)
      ∙ ap Read (append-nil (profiles_from vs s p.table p.count 0))

  module _ (low : p.count ≤ 32) where
    read-room : {x : OneProfile} → next_of vs s p left at ≡ Read x → p.count < 32
    read-room {x} e = go (leb 32 p.count) refl
      where
        go : (b : Bool) → leb 32 p.count ≡ b → p.count < 32
        go true q = absurd (profile-full left (names_of s p.table p.count) vs s at (rw q at e))
        go false q = leb-false _ _ q

    module _ (e : ends (token_at no_stop s at) ≡ false) where
      read-refused : {n q : ℕ} → next_of vs s p left at ≡ Refused n q → read_from vs s p left at ≡ Refused n q
      unfolding after
      read-refused {n} {q} f =
          ap (after (profiles_from vs s p.table p.count 0)) (go (32 - p.count) refl)
        where
          go : (m : ℕ) → 32 - p.count ≡ m → profiles_at (32 - p.count) left (names_of s p.table p.count) vs s at ≡ Refused n q
          go zero k = rw k (profiles-full left (names_of s p.table p.count) vs s at e (rw (le-leb 32 p.count (omega arith)) at f))
          go (suc m) k = rw k (profiles-by left (names_of s p.table p.count) vs s at e m ∙ rw (rw (lt-leb 32 p.count (omega arith)) at f))

      -- one profile more
      read_more : {name : Span} {rules : Place} {k n : ℕ} {new : Profiles} → OneMore p name rules k new →
          next_of vs s p left at ≡ Read (record { profile = record { name = span_of s name; rules = rules_from k (pattern_fault vs) s rules.0 }; count = k; next = n }) →
          read_from vs s p left at ≡ read_from vs s new (left - k) n
      read_more {name} {rules} {k} {n} {new} w f =
          let x : Profile = record { name = span_of s name; rules = rules_from k (pattern_fault vs) s rules.0 } in
          let ps : List Profile = profiles_from vs s p.table p.count 0 in
          let used : List (List ℕ) = names_of s p.table p.count in
          let room : p.count < 32 = read-room f in
          let a : 32 - p.count ≡ suc (32 - new.count) = omega (arith, w.count) in
          let b : leb 32 p.count ≡ false = lt-leb 32 p.count room in
          ap (λ (m : ℕ). after ps (profiles_at m left used vs s at)) a
          ∙ ap (after ps) (profiles-by left used vs s at e (32 - new.count) ∙ rw (rw b at f))
          ∙ after_one ps x (profiles_at (32 - new.count) (left - k) (span_of s name ∷ used) vs s n)
          ∙ ap₂ (λ (l : List Profile) (u : List (List ℕ)). after l (profiles_at (32 - new.count) (left - k) u vs s n)) (sym (w.last (pattern_fault vs) s)) (sym (w.names s))

-- a turn of reading profiles, by what was read
module _ (vs : List Variable) (s : List ℕ) (p : Profiles) (left at : ℕ) (low : p.count ≤ 32) where
  pub turn-refused : ends (token_at no_stop s at) ≡ false → (stop : Stop) → seen_profile vs s (Err stop) ≡ next_of vs s p left at → read_from vs s p left at ≡ refused_by stop
  unfolding seen_profile
  turn-refused b stop e = read-refused vs s p left at low b (sym e)

  module _ (r : ProfileRead) (e : seen_profile vs s (Ok r) ≡ next_of vs s p left at) where
    told : next_of vs s p left at ≡
        Read (record { profile = record { name = span_of s r.name; rules = rules_from r.count (pattern_fault vs) s r.rules.0 }; count = r.count; next = r.next.0 })
    unfolding seen_profile
    told = sym e

    pub turn-room : p.count < 32
    turn-room = read-room vs s p left at low told

    pub turn-left : r.count ≤ left
    turn-left = profile-left (leb 32 p.count) left (names_of s p.table p.count) vs s at told

    turn-count : length (rules_from r.count (pattern_fault vs) s r.rules.0) ≡ r.count
    turn-count = profile-count (leb 32 p.count) left (names_of s p.table p.count) vs s at told

    turn-again : rules_from r.count (λ _. 0) s r.rules.0 ≡ rules_from r.count (pattern_fault vs) s r.rules.0
    turn-again = rules-unjudged (pattern_fault vs) s r.count r.rules.0 turn-count

    turn_more : ends (token_at no_stop s at) ≡ false → {new : Profiles} → OneMore p r.name r.rules r.count new →
        read_from vs s p left at ≡ read_from vs s new (left - r.count) r.next.0
    turn_more b w = read_more vs s p left at low b w told

-- ---- a profile stored

-- one profile more at the end
profiles-last : (fault : List ℕ → ℕ) (s t : List ℕ) (k i : ℕ) → profiles_by fault s t (suc k) i ≡ profiles_by fault s t k i ++ (profile_of fault s t (i + k) ∷ [])
unfolding profiles_by
profiles-last fault s t zero i = let e : i + 0 ≡ i = omega arith in rw e
profiles-last fault s t (suc k) i =
    let e : i + 1 + k ≡ i + suc k = omega arith in
    ap (λ (l : List Profile). profile_of fault s t i ∷ l) (profiles-last fault s t k (i + 1) ∙ rw e)

module _ (t : List ℕ) (i a e r k : ℕ) where
  abbrev one : List ℕ
  one = set t (4 * i) a

  abbrev two : List ℕ
  two = set one (4 * i + 1) e

  abbrev three : List ℕ
  three = set two (4 * i + 2) r

  abbrev stored : List ℕ
  stored = set three (4 * i + 3) k

  -- the profiles before it are as they were
  kept : (m : ℕ) → m < 4 * i → get_or stored m 0 ≡ get_or t m 0
  kept m h =
      let p : m ≡ 4 * i → ⊥ = λ q. omega arith in
      let p1 : m ≡ 4 * i + 1 → ⊥ = λ q. omega arith in
      let p2 : m ≡ 4 * i + 2 → ⊥ = λ q. omega arith in
      let p3 : m ≡ 4 * i + 3 → ⊥ = λ q. omega arith in
      rw (get_or-set_other, get_or-set_other, get_or-set_other, get_or-set_other)

  module _ (s : List ℕ) where
    bytes-kept : (m : ℕ) → m + 1 < 4 * i → bytes_at s stored m ≡ bytes_at s t m
    bytes-kept m h = ap₂ (λ (x y : ℕ). span s x y) (kept m (omega arith)) (kept (m + 1) h)

    names-kept : (n : ℕ) → n ≤ i → names_of s stored n ≡ names_of s t n
    unfolding names_of
    names-kept zero h = refl
    names-kept (suc n) h = ap₂ ◌∷◌ (bytes-kept (4 * n) (omega arith)) (names-kept n (omega arith))

    profiles-kept : (fault : List ℕ → ℕ) (n j : ℕ) → j + n ≤ i → profiles_by fault s stored n j ≡ profiles_by fault s t n j
    unfolding profiles_by
    profiles-kept fault zero j h = refl
    profiles-kept fault (suc n) j h =
        ap₂ ◌∷◌
        (rw (bytes-kept (4 * j) (omega arith), kept (4 * j + 2) (omega arith), kept (4 * j + 3) (omega arith)))
        (profiles-kept fault n (j + 1) (omega arith))

  -- and it is there
  module _ (size : length t ≡ 128) (h : i < 32) where
    first : get_or stored (4 * i) 0 ≡ a
    first =
        let p1 : 4 * i ≡ 4 * i + 1 → ⊥ = λ q. omega arith in
        let p2 : 4 * i ≡ 4 * i + 2 → ⊥ = λ q. omega arith in
        let p3 : 4 * i ≡ 4 * i + 3 → ⊥ = λ q. omega arith in
        rw (get_or-set_other, get_or-set_other, get_or-set_other) (get_or-set_same t (4 * i) a 0 (omega arith))

    second : get_or stored (4 * i + 1) 0 ≡ e
    second =
        let p2 : 4 * i + 1 ≡ 4 * i + 2 → ⊥ = λ q. omega arith in
        let p3 : 4 * i + 1 ≡ 4 * i + 3 → ⊥ = λ q. omega arith in
        rw (get_or-set_other, get_or-set_other) (get_or-set_same one (4 * i + 1) e 0 (simp length-set (omega arith)))

    third : get_or stored (4 * i + 2) 0 ≡ r
    third =
        let p3 : 4 * i + 2 ≡ 4 * i + 3 → ⊥ = λ q. omega arith in
        rw get_or-set_other (get_or-set_same two (4 * i + 2) r 0 (simp length-set (omega arith)))

    fourth : get_or stored (4 * i + 3) 0 ≡ k
    fourth = get_or-set_same three (4 * i + 3) k 0 (simp length-set (omega arith))

pub one_more : (p : Profiles) (name : Span) (rules : Place) (k : ℕ) → length p.table ≡ 128 → p.count < 32 →
    OneMore p name rules k (record { table = stored p.table p.count name.from.0 name.end.0 rules.0 k; count = p.count + 1 })
unfolding names_of
one_more p name rules k size h =
    let t : List ℕ = p.table in
    let i : ℕ = p.count in
    let a : ℕ = name.from.0 in
    let e : ℕ = name.end.0 in
    let r : ℕ = rules.0 in
    let new : List ℕ = stored t i a e r k in
    let z : 0 + i ≡ i = omega arith in
    record {
      count = refl;
      names = λ s.
          ap (names_of s new) (add-one i)
          ∙ ap₂ ◌∷◌
          (ap₂ (λ (x y : ℕ). span s x y) (first t i a e r k size h) (second t i a e r k size h))
          (names-kept t i a e r k s i (omega arith));
      last = λ fault s.
          ap (λ (n : ℕ). profiles_by fault s new n 0) (add-one i)
          ∙ profiles-last fault s new i 0
          ∙ ap₂ (λ (l : List Profile) (x : Profile). l ++ (x ∷ []))
          (profiles-kept t i a e r k s fault i 0 (omega arith))
          (rw (z, first t i a e r k size h, second t i a e r k size h, third t i a e r k size h, fourth t i a e r k size h));
    }

-- ---- reading profiles, turn by turn

rules-one : (ps : List Profile) (x : Profile) → rules_in (ps ++ (x ∷ [])) ≡ rules_in ps + length x.rules
unfolding rules_in
rules-one [] x = omega arith
rules-one (p ∷ ps) x = omega (arith, rules-one ps x)

-- what is known of the profiles that were read, where so many rules were allowed and some are left
pub record SoFar (vs : List Variable) (s : List ℕ) (allowed from : ℕ) (p : Profiles) (left at : ℕ) : Type 0 where
  pub low : p.count ≤ 32
  pub read : read_from vs s p left at ≡ profiles_at 32 allowed [] vs s from
  pub again : profiles_again s p.table p.count 0 ≡ profiles_from vs s p.table p.count 0
  pub rules : rules_in (profiles_from vs s p.table p.count 0) + left ≡ allowed

module _ (vs : List Variable) (s : List ℕ) (allowed from : ℕ) (p : Profiles) where
  pub start : p.count ≡ 0 → SoFar vs s allowed from p allowed from
  unfolding profiles_by rules_in
  start e =
      record {
        low = omega arith;
        read = read_none vs s p allowed from e;
        again = rw e;
        rules = rw e (omega arith);
      }

  module _ (left at : ℕ) (so : SoFar vs s allowed from p left at) where
    -- one profile more
    pub more : (r : ProfileRead) → seen_profile vs s (Ok r) ≡ next_of vs s p left at → ends (token_at no_stop s at) ≡ false →
        {new : Profiles} → OneMore p r.name r.rules r.count new → SoFar vs s allowed from new (left - r.count) r.next.0
    more r e b {new} w =
        let room : p.count < 32 = turn-room vs s p left at so.low r e in
        let fits : r.count ≤ left = turn-left vs s p left at so.low r e in
        let size : length (rules_from r.count (pattern_fault vs) s r.rules.0) ≡ r.count = turn-count vs s p left at so.low r e in
        let x : Profile = record { name = span_of s r.name; rules = rules_from r.count (pattern_fault vs) s r.rules.0 } in
        let ps : List Profile = profiles_from vs s p.table p.count 0 in
        let total : rules_in (profiles_from vs s new.table new.count 0) ≡ rules_in ps + r.count =
        ap rules_in (w.last (pattern_fault vs) s) ∙ rules-one ps x ∙ ap (λ (n : ℕ). rules_in ps + n) size in
        record {
          low = omega (arith, w.count);
          read = sym (turn_more vs s p left at so.low r e b w) ∙ so.read;
          again =
              w.last (λ _. 0) s
              ∙ ap₂ (λ (l : List Profile) (y : List Rule). l ++ (record { name = span_of s r.name; rules = y } ∷ []))
              so.again
              (turn-again vs s p left at so.low r e)
              ∙ sym (w.last (pattern_fault vs) s);
          rules = omega (arith, total, so.rules);
        }

    -- where the text ends
    pub kept-end : Kept vs s allowed (record { profiles = p; rules = allowed - left })
    unfolding seen_profiles rules_read
    kept-end = record { few = so.low; again = so.again; rules = omega (arith, so.rules); fits = omega arith }

-- ---- the whole text

-- the profiles under these variables, or the refusal, with its line and column
unfoldable judged_by : List Variable → List ℕ → Reading (List Profile) → Judged
judged_by vs s (Read ps) = Accepted vs ps
judged_by vs s (Refused n p) = Rejected (refusal_at s n p)

module _ (allowed : ℕ) (s : List ℕ) where
  -- as the definition tells it
  file-judged : (vs : List Variable) → ((p : Preamble) → preamble_at 512 [] s 0 ≡ Read p → vs ≡ p.variables) →
      judged_by vs s (profiles_of allowed s (preamble_of (preamble_at 512 [] s 0))) ≡ judged_of s (file_within allowed s)
  unfolding judged_by judged_of file_within profiles_of preamble_of
  file-judged vs f = go (preamble_at 512 [] s 0) refl
    where
      profiles : (p : Preamble) → vs ≡ final_sets [] p.assignments → (y : Reading (List Profile)) →
          judged_by vs s y ≡ judged_of s (y >>= λ ps. Read (record { preamble = p.assignments; profiles = ps }))
      profiles p e (Read ps) = ap (λ (l : List Variable). Accepted l ps) e
      profiles p e (Refused n q) = refl

      go : (x : Reading Preamble) → preamble_at 512 [] s 0 ≡ x →
          judged_by vs s (profiles_of allowed s (preamble_of x))
          ≡ judged_of s (x >>= λ p. profiles_at 32 allowed [] p.variables s p.next >>= λ ps. Read (record { preamble = p.assignments; profiles = ps }))
      go (Read p) e = profiles p (f p e ∙ preamble-sets 512 [] s 0 p e) (profiles_at 32 allowed [] p.variables s p.next)
      go (Refused n q) e = refl

  -- how many rules there are
  rules-counted : rules_read (profiles_of allowed s (preamble_of (preamble_at 512 [] s 0))) ≡ rule_count (file_within allowed s)
  unfolding rules_read rule_count file_within profiles_of preamble_of
  rules-counted = go (preamble_at 512 [] s 0)
    where
      profiles : (p : Preamble) (y : Reading (List Profile)) → rules_read y ≡ rule_count (y >>= λ ps. Read (record { preamble = p.assignments; profiles = ps }))
      profiles p (Read ps) = refl
      profiles p (Refused n q) = refl

      go : (x : Reading Preamble) →
          rules_read (profiles_of allowed s (preamble_of x))
          ≡ rule_count (x >>= λ p. profiles_at 32 allowed [] p.variables s p.next >>= λ ps. Read (record { preamble = p.assignments; profiles = ps }))
      go (Read p) = profiles p (profiles_at 32 allowed [] p.variables s p.next)
      go (Refused n q) = refl

  -- the assignments are refused
  pub file-refused : (t : List ℕ) (stop : Stop) → seen_preamble s t (Err stop) ≡ preamble_of (preamble_at 512 [] s 0) →
      Rejected (refusal_at s stop.number stop.place.0) ≡ judged_of s (file_within allowed s)
  unfolding seen_preamble preamble_of judged_of file_within
  file-refused t stop e = go (preamble_at 512 [] s 0) e
    where
      go : (x : Reading Preamble) → refused_by {A = State} stop ≡ preamble_of x →
          Rejected (refusal_at s stop.number stop.place.0)
          ≡ judged_of s (x >>= λ p. profiles_at 32 allowed [] p.variables s p.next >>= λ ps. Read (record { preamble = p.assignments; profiles = ps }))
      go (Read p) q = let z : ◌≡◌ {A = ℕ} 0 1 = cc in absurd (omega arith)
      go (Refused n p) q =
          let i : stop.number ≡ n = cc in
          let j : stop.place.0 ≡ p = cc in
          rw (i, j)

  -- the assignments are read, and then the profiles
  module _ (t : List ℕ) (p : PreambleRead) (e : seen_preamble s t (Ok p) ≡ preamble_of (preamble_at 512 [] s 0)) where
    sets : (q : Preamble) → preamble_at 512 [] s 0 ≡ Read q → env s t p.count ≡ q.variables
    unfolding seen_preamble preamble_of
    sets q f =
        let j : ◌≡◌ {A = State} (record { variables = env s t p.count; next = p.next.0 }) (record { variables = q.variables; next = q.next }) = (let h = e ∙ ap preamble_of f in cc) in
        ap (λ (y : State). y.variables) j

    module _ (x : Reading (List Profile)) (f : x ≡ profiles_at 32 allowed [] (env s t p.count) s p.next.0) where
      after-preamble : x ≡ profiles_of allowed s (preamble_of (preamble_at 512 [] s 0))
      unfolding seen_preamble profiles_of
      after-preamble = f ∙ ap (profiles_of allowed s) e

      file-profiles : judged_by (env s t p.count) s x ≡ judged_of s (file_within allowed s)
      file-profiles = ap (judged_by (env s t p.count) s) after-preamble ∙ file-judged (env s t p.count) sets

    pub profiles-refused : (stop : Stop) → seen_profiles (env s t p.count) s (Err stop) ≡ profiles_at 32 allowed [] (env s t p.count) s p.next.0 →
        Rejected (refusal_at s stop.number stop.place.0) ≡ judged_of s (file_within allowed s)
    unfolding seen_profiles judged_by
    profiles-refused stop f = file-profiles (refused_by stop) f

    module _ (ps : ProfilesRead) (f : seen_profiles (env s t p.count) s (Ok ps) ≡ profiles_at 32 allowed [] (env s t p.count) s p.next.0) where
      abbrev found : FileRead
      found = record { vars = p.count; profiles = ps.profiles.table; count = ps.profiles.count; rules = ps.rules }

      pub file-read : seen_file s t (Ok found) ≡ judged_of s (file_within allowed s)
      unfolding seen_file seen_profiles judged_by
      file-read = file-profiles (Read (profiles_from (env s t p.count) s ps.profiles.table ps.profiles.count 0)) f

      pub file-kept : p.count ≤ 32 → Kept (env s t p.count) s allowed ps → FileKept s t allowed found
      file-kept n k =
          record {
            set = n;
            few = k.few;
            again = k.again;
            rules = k.rules ∙ ap rules_read (after-preamble (seen_profiles (env s t p.count) s (Ok ps)) f) ∙ rules-counted;
            fits = k.fits;
          }
