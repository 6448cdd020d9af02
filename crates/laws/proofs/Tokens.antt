-- Demand 3 on texts, of rules that are the same when their tokens are.
use Prim.Native.Nat.{ℕ, zero, suc, ◌+◌, ◌-◌, ◌≤◌}
use mathlib.Core.Path.{◌≡◌, refl, sym, ap, ◌∙◌, subst}
use mathlib.Core.List.Memᴰ
use mathlib.Core.List.{List, [], ◌∷◌, map, Memᴰ}
use mathlib.Core.Bool.{Bool, true, false, ◌||◌}
use native.Mathlib.Omega.{arith}
use lib.ListN.{length}
use lib.Dec.{ltb}
use Rattle.scan.specs.Bytes.{bytes, same, some}
use Rattle.text.specs.Reading.{Reading, Read, Refused, ◌>>=◌}
use Rattle.tokens.specs.Tokens.{Token, no_stop, token_at}
use Rattle.blanks.specs.Blanks.{standing, stands_at}
use Rattle.keywords.specs.Keywords.{first_word, not_taken}
use Rattle.pattern.specs.Expansions.{Variable}
use Rattle.pattern.specs.Faults.{pattern_fault}
use Rattle.rule.specs.Rules.{Rule, Qualifiers, RuleRead, qualifiers_at, pattern_at, rule_from, body_at, Step, More, Close, rule_at, end_at, RulesRead, no_rules, step_then, rules_at}
use Rattle.preamble.specs.Preamble.{Preamble, preamble_at}
use Rattle.heads.specs.Heads.{Head, name_at, open_at, head_at}
use Rattle.profile.specs.Profiles.{Profile, File, OneProfile, one_profile, ends, profile_at, unless_end, profiles_at, file_of, file_within}
use Rattle.findings.specs.Findings.{allows, denies}
use Rattle.decide.specs.Decide.{answer_of}
use Rattle.laws.specs.Orders.{Accepted, SameButRules, NoMore, NoLess}
use Rattle.family.specs.Families.{SameRules, Added}
use Rattle.family.specs.Families as families
use Rattle.laws.specs.Written as written
use Rattle.laws.specs.Written.{Written, meaning, WrittenRules, unless_closed, rules_written, WrittenProfile, profiles_written, WrittenFile, written_of, AcceptedAs, SameWritten, AddedWritten, SameButWritten, profile_by, file_by}
use Rattle.laws.proofs.Steps.{never, inner, step, unless}
use Rattle.laws.proofs.Orders.{any_order, deny-added, allow-added, other-profiles}
use Rattle.laws.proofs.Written.{Said, step-said, same-meaning}

-- ---- the rules of a profile

-- rules as read and as written, where at most so many are
record RulesSaid (left : ℕ) (s : List ℕ) (at : ℕ) (rs : RulesRead) : Type 0 where
  written : WrittenRules
  stands : rules_written left s at ≡ Read written
  next : rs.next ≡ (written).next
  said : map meaning (written).rules ≡ rs.rules

said-none : (left : ℕ) (s : List ℕ) (at : ℕ) (rs : RulesRead) → stands_at (bytes "}") s at ≡ true → rs ≡ no_rules (standing s at + 1) → RulesSaid left s at rs
unfolding rules_written unless_closed
said-none left s at rs h k = record { written = record { rules = []; next = standing s at + 1 }; stands = by left; next = rw k; said = rw k }
  where
    by : (n : ℕ) → rules_written n s at ≡ Read (record { rules = []; next = standing s at + 1 })
    by zero = rw (h, unless_closed)
    by (suc n) = rw (h, unless_closed)

said_more : (left : ℕ) (s : List ℕ) (at : ℕ) (rs : RulesRead) (r : RuleRead) (more : RulesRead) → stands_at (bytes "}") s at ≡ false → Said s at r
    → RulesSaid left s r.next more → rs ≡ record { rules = r.rule ∷ more.rules; next = more.next } → RulesSaid (suc left) s at rs
unfolding rules_written unless_closed
said_more left s at rs r more h x y k =
    record {
      written = record { rules = x.written ∷ y.written.rules; next = y.written.next };
      stands = rw (h, unless_closed, x.stands, ← x.next, y.stands);
      next = rw (k, y.next);
      said = rw (k, x.said, y.said);
    }

-- where a profile ends
end-said : (s : List ℕ) (at n : ℕ) → end_at s at ≡ Read n → (stands_at (bytes "}") s at ≡ true) × (n ≡ standing s at + 1)
unfolding end_at body_at
end-said s at n e = go (stands_at (bytes "}") s at) refl e
  where
    go : (b : Bool) → stands_at (bytes "}") s at ≡ b
        → (elim b as (λ _. Reading ℕ) [ true ↦ Read (standing s at + 1) | false ↦ pattern_at s (qualifiers_at s at) >>= λ t. Refused 9 t.start ]) ≡ Read n
        → (stands_at (bytes "}") s at ≡ true) × (n ≡ standing s at + 1)
    go true h f = (h, inner f)
    go false h f = absurd (never (step (pattern_at s (qualifiers_at s at)) _ n f).2)

close-said : (fault : List ℕ → ℕ) (s : List ℕ) (at n : ℕ) → rule_at fault s at ≡ Read (Close n) → (stands_at (bytes "}") s at ≡ true) × (n ≡ standing s at + 1)
unfolding rule_at body_at
close-said fault s at n e = go (stands_at (bytes "}") s at) refl e
  where
    q : Qualifiers
    q = qualifiers_at s at

    none : (r : RuleRead) → Read (More r) ≡ Read (Close n) → ⊥
    none r f = let z : ◌≡◌ {A = ℕ} 0 1 = cc in omega arith

    go : (b : Bool) → stands_at (bytes "}") s at ≡ b
        → (elim b as (λ _. Reading Step) [ true ↦ Read (Close (standing s at + 1)) | false ↦ pattern_at s q >>= λ t. rule_from fault s q t >>= λ x. Read (More x) ]) ≡ Read (Close n)
        → (stands_at (bytes "}") s at ≡ true) × (n ≡ standing s at + 1)
    go true h f = (h, cc)
    go false h f =
        let a = step (pattern_at s q) _ (Close n) f in
        let b = step (rule_from fault s q a.0) _ (Close n) a.2 in
        absurd (none b.0 b.2)

rules-said : (left k : ℕ) → left ≤ k → (fault : List ℕ → ℕ) (s : List ℕ) (at : ℕ) (rs : RulesRead) → rules_at left fault s at ≡ Read rs → RulesSaid k s at rs
unfolding rules_at
rules-said zero k h fault s at rs e =
    let a = step (end_at s at) _ rs e in
    let b = end-said s at a.0 a.1 in
    said-none k s at rs b.0 (inner a.2 ∙ ap no_rules b.1)
rules-said (suc left) zero h fault s at rs e = absurd (omega arith)
rules-said (suc left) (suc k) h fault s at rs e = go (λ r more. rules-said left k (omega arith) fault s r.next more) (rule_at fault s at) refl e
  where
    go : ((r : RuleRead) (more : RulesRead) → rules_at left fault s r.next ≡ Read more → RulesSaid k s r.next more) → (x : Reading Step) → rule_at fault s at ≡ x
        → (x >>= step_then (λ r. rules_at left fault s r.next)) ≡ Read rs → RulesSaid (suc k) s at rs
    go i (Read (More r)) f e =
        let a = step (rules_at left fault s r.next) _ rs e in
        let b = step-said fault s at r f in
        said_more k s at rs r a.0 b.0 b.1 (i r a.0 a.1) (inner a.2)
    go i (Read (Close n)) f e = let b = close-said fault s at n f in said-none (suc k) s at rs b.0 (inner e ∙ ap no_rules b.1)
    go i (Refused n p) f e = absurd (never e)

-- ---- all profiles

-- a head as read: its name and the {
record HeadSaid (s : List ℕ) (at : ℕ) (h : Head) : Type 0 where
  token : Token
  stands : name_at s at ≡ Read token
  opens : open_at s token.next ≡ Read h.next
  said : token.content ≡ h.name

head-said : (full : Bool) (used : List (List ℕ)) (s : List ℕ) (at : ℕ) (h : Head) → head_at full used s at ≡ Read h → HeadSaid s at h
unfolding head_at
head-said full used s at h e =
    let a = step (name_at s at) _ h (unless (first_word not_taken s at) 5 (standing s at) _ h e) in
    let b = unless (full || ltb 255 (length a.0.content)) 9 a.0.start _ h a.2 in
    let c = step (open_at s a.0.next) _ h (unless (some (same a.0.content) used) 10 a.0.start _ h b) in
    by a.0 c.0 a.1 c.1 c.2
  where
    by : (t : Token) (next : ℕ) → name_at s at ≡ Read t → open_at s t.next ≡ Read next → Read (record { name = t.content; next = next }) ≡ Read h → HeadSaid s at h
    by t next f g d = let k = inner d in record { token = t; stands = f; opens = rw k g; said = rw k }

-- profiles as read and as written
record ProfilesSaid (left : ℕ) (s : List ℕ) (at : ℕ) (ps : List Profile) : Type 0 where
  written : List WrittenProfile
  stands : profiles_written left s at ≡ Read written
  said : map profile_by written ≡ ps

profiles-none : (left : ℕ) (s : List ℕ) (at : ℕ) (ps : List Profile) → ends (token_at no_stop s at) ≡ true → Read [] ≡ Read ps → ProfilesSaid left s at ps
unfolding profiles_written
profiles-none left s at ps h e = record { written = []; stands = by left; said = sym (inner e) }
  where
    by : (n : ℕ) → profiles_written n s at ≡ Read []
    by zero = refl
    by (suc n) = rw (h, profiles_written)

profiles-more : (left : ℕ) (s : List ℕ) (at : ℕ) (ps : List Profile) (h : Head) (rs : RulesRead) (x : OneProfile) (more : List Profile) → ends (token_at no_stop s at) ≡ false
    → HeadSaid s at h → RulesSaid 512 s h.next rs → x ≡ one_profile h.name rs → ProfilesSaid left s x.next more → ps ≡ x.profile ∷ more → ProfilesSaid (suc left) s at ps
unfolding profiles_written
profiles-more left s at ps h rs x more f y z e w k =
    record {
      written = record { name = y.token.content; rules = z.written.rules } ∷ w.written;
      stands = rw (f, profiles_written, y.stands, y.opens, z.stands, ← z.next, ← ap (λ (u : OneProfile). u.next) e, w.stands);
      said = rw (k, e, y.said, z.said, w.said);
    }

profiles-said : (left rules_left : ℕ) (used : List (List ℕ)) (vs : List Variable) (s : List ℕ) (at : ℕ) (ps : List Profile) → rules_left ≤ 512
    → profiles_at left rules_left used vs s at ≡ Read ps → ProfilesSaid left s at ps
unfolding profiles_at unless_end profile_at
profiles-said zero rules_left used vs s at ps l e = go (ends (token_at no_stop s at)) refl e
  where
    go : (b : Bool) → ends (token_at no_stop s at) ≡ b
        → (elim b as (λ _. Reading (List Profile)) [ true ↦ Read [] | false ↦ profile_at true rules_left used vs s at >>= λ x. Refused 9 at ]) ≡ Read ps → ProfilesSaid 0 s at ps
    go true f q = profiles-none 0 s at ps f q
    go false f q = absurd (never (step (profile_at true rules_left used vs s at) _ ps q).2)
profiles-said (suc left) rules_left used vs s at ps l e =
    go (λ x more. profiles-said left (rules_left - x.count) (x.profile.name ∷ used) vs s x.next more (omega arith)) (ends (token_at no_stop s at)) refl e
  where
    rest : OneProfile → Reading (List Profile)
    rest x = profiles_at left (rules_left - x.count) (x.profile.name ∷ used) vs s x.next

    go : ((x : OneProfile) (more : List Profile) → rest x ≡ Read more → ProfilesSaid left s x.next more) → (b : Bool) → ends (token_at no_stop s at) ≡ b
        → (elim b as (λ _. Reading (List Profile)) [ true ↦ Read [] | false ↦ profile_at false rules_left used vs s at >>= λ x. rest x >>= λ more. Read (x.profile ∷ more) ]) ≡ Read ps
        → ProfilesSaid (suc left) s at ps
    go i true f q = profiles-none (suc left) s at ps f q
    go i false f q =
        let a = step (profile_at false rules_left used vs s at) _ ps q in
        let b = step (rest a.0) _ ps a.2 in
        let c = step (head_at false used s at) _ a.0 a.1 in
        let d = step (rules_at rules_left (pattern_fault vs) s c.0.next) _ a.0 c.2 in
        profiles-more left s at ps c.0 d.0 a.0 b.0 f (head-said false used s at c.0 c.1) (rules-said rules_left 512 l (pattern_fault vs) s c.0.next d.0 d.1) (inner d.2)
        (i a.0 b.0 b.1) (inner b.2)

-- ---- a whole text

-- an accepted text means what its tokens say
pub file-said : (s : List ℕ) (f : File) → file_of s ≡ Read f → (v : WrittenFile) × (written_of s ≡ Read v) × (file_by v ≡ f)
unfolding file_of file_within written_of
file-said s f e =
    let a = step (preamble_at 512 [] s 0) _ f e in
    let b = step (profiles_at 32 512 [] a.0.variables s a.0.next) _ f a.2 in
    by a.0 b.0 a.1 (profiles-said 32 512 [] a.0.variables s a.0.next b.0 (omega arith) b.1) b.2
  where
    by : (p : Preamble) (ps : List Profile) → preamble_at 512 [] s 0 ≡ Read p → ProfilesSaid 32 s p.next ps → Read (record { preamble = p.assignments; profiles = ps }) ≡ Read f
        → (v : WrittenFile) × (written_of s ≡ Read v) × (file_by v ≡ f)
    by p ps g x d = (record { preamble = p.assignments; profiles = x.written }, rw (g, x.stands), rw (inner d, x.said))

accepted-by : (s : List ℕ) (v : WrittenFile) → AcceptedAs s v → Accepted s (file_by v)
accepted-by s v a =
    let k = file-said s a.file a.accepted.file in
    let e : a.file ≡ file_by v = sym k.2 ∙ ap file_by (sym (inner (sym k.1 ∙ a.written))) in
    subst (Accepted s) e a.accepted

-- ---- relations of written rules as relations of rules

same_by : (vs ws : List Written) → SameWritten vs ws → SameRules (map meaning vs) (map meaning ws)
same_by vs ws h = (
  λ r m. let a = Memᴰ.of_map meaning vs m in
      let b = h.there a.0 a.1 in
      Memᴰ.cast (sym a.2 ∙ same-meaning a.0 b.0 b.2) (Memᴰ.map meaning b.1),
  λ r m. let a = Memᴰ.of_map meaning ws m in
      let b = h.back a.0 a.1 in
      Memᴰ.cast (sym a.2 ∙ sym (same-meaning b.0 a.0 b.2)) (Memᴰ.map meaning b.1),
)

module _ (deny : Bool) (p : Rule → Bool) (by : (w : Written) → some (same (bytes "deny")) w.qualifiers ≡ deny → p (meaning w) ≡ true) where
  added-by : (vs ws : List Written) → AddedWritten deny vs ws → Added p (map meaning vs) (map meaning ws)
  added-by vs ws written.none = families.none
  added-by vs ws (written.kept {vs = xs} {ws = ys} v w h a) =
      subst (λ (r : Rule). Added p (meaning v ∷ map meaning xs) (r ∷ map meaning ys)) (same-meaning v w h) (families.kept (meaning v) (added-by xs ys a))
  added-by vs ws (written.added {vs = xs} {ws = ys} w e a) = families.added (meaning w) (by w e) (added-by xs ys a)

files-by : (R : List Written → List Written → Type 0) (S : List Rule → List Rule → Type 0) → ((vs ws : List Written) → R vs ws → S (map meaning vs) (map meaning ws))
    → (v w : WrittenFile) → SameButWritten R v w → SameButRules S (file_by v) (file_by w)
files-by R S step v w h =
    record {
      preamble = h.preamble;
      there = λ p m.
          let a = Memᴰ.of_map profile_by v.profiles m in
          let b = h.there a.0 a.1 in (
            profile_by b.0,
            Memᴰ.map profile_by b.1,
            ap (λ (x : Profile). x.name) (sym a.2) ∙ b.2,
            subst (λ (x : Profile). S x.rules (map meaning b.0.rules)) a.2 (step a.0.rules b.0.rules b.3),
          );
      back = λ q m.
          let a = Memᴰ.of_map profile_by w.profiles m in
          let b = h.back a.0 a.1 in
          (profile_by b.0, Memᴰ.map profile_by b.1, b.2 ∙ ap (λ (x : Profile). x.name) a.2);
    }

-- ---- the sentences, of texts as they are written

module _ (s t name path : List ℕ) (asked : ℕ) (owner : Bool) (v w : WrittenFile) (a : AcceptedAs s v) (b : AcceptedAs t w) where
  -- "If each profile holds the same rules, in whatever order and each however often, every request gets the same answer."
  pub any-order-written : SameButWritten SameWritten v w → answer_of s name path asked owner ≡ answer_of t name path asked owner
  any-order-written h = any_order s t name path asked owner (file_by v) (file_by w) (accepted-by s v a) (accepted-by t w b) (files-by SameWritten SameRules same_by v w h)

  -- "With deny rules added, wherever, no bit and no transition is granted that wasn't before."
  pub deny-added-written : SameButWritten (AddedWritten true) v w → NoMore (answer_of s name path asked owner) (answer_of t name path asked owner)
  unfolding meaning
  deny-added-written h =
      deny-added s t name path asked owner (file_by v) (file_by w) (accepted-by s v a) (accepted-by t w b)
      (files-by (AddedWritten true) (Added denies) (added-by true denies (λ w e. e)) v w h)

  -- "With allow rules added, wherever, every granted bit but execute stays granted; execute may be lost only to a conflict, and its
  -- transition may change."
  pub allow-added-written : SameButWritten (AddedWritten false) v w → NoLess (answer_of s name path asked owner) (answer_of t name path asked owner)
  unfolding meaning
  allow-added-written h =
      allow-added s t name path asked owner (file_by v) (file_by w) (accepted-by s v a) (accepted-by t w b)
      (files-by (AddedWritten false) (Added allows) (added-by false allows (λ w e. rw e)) v w h)

  -- "With the same preamble and the same rules in the asked profile, two accepted files that both hold it answer alike, whatever their
  -- other profiles hold."
  pub other-profiles-written : (p q : WrittenProfile) → v.preamble ≡ w.preamble → Memᴰ p v.profiles → Memᴰ q w.profiles → p.name ≡ name → q.name ≡ name
      → SameWritten p.rules q.rules → answer_of s name path asked owner ≡ answer_of t name path asked owner
  other-profiles-written p q e m k d f h =
      other-profiles s t name path asked owner (file_by v) (file_by w) (profile_by p) (profile_by q) (accepted-by s v a) (accepted-by t w b) e (Memᴰ.map profile_by m) (Memᴰ.map profile_by k) d f
      (same_by p.rules q.rules h)
