-- "Rules are the same when their tokens are, quotes, a written allow and the order or repeating of letters in PERMS aside": such rules are
-- read as equal.
use Rattle.std.specs.Prelude.{Option, Some, None, if◌then◌else◌}
use Prim.Native.Nat.{ℕ, ◌+◌}
use Prim.Native.Char.{code}
use mathlib.Core.Path.{◌≡◌, refl, sym, ap, ◌∙◌}
use mathlib.Core.List.{List, [], ◌∷◌, ◌++◌}
use mathlib.Core.Bool.{Bool, true, false, not, ◌||◌, ◌&&◌, and-false, and-true, or-false}
use native.Mathlib.Omega.{arith}
use lib.ListN.{length, get_or}
use lib.Dec.{eqb, ltb}
use Rattle.scan.specs.Bytes.{bytes, same, holds, every, some}
use Rattle.scan.proofs.Laws.{same_self}
use Rattle.perms.specs.Sets.{set_of, perms}
use Rattle.perms.specs.declared.Perms.{Perms}
use Rattle.modes.specs.declared.Mode.{Mode}
use Rattle.perms_word.specs.Words.{letters, carried, carries, with_mode, word_of}
use Rattle.perms_word.specs.declared.Word.{Word}
use Rattle.text.specs.Reading.{Reading, Read, Refused, ◌>>=◌, refuse_if, judged}
use Rattle.blanks.specs.Blanks.{standing, stands_at}
use Rattle.tokens.specs.Tokens.{Token, comma, no_stop, is_word, token_at, wanted}
use Rattle.keywords.specs.Keywords.{barred, first_word}
use Rattle.names.specs.Names.{name_form}
use Rattle.rule_tail.specs.Tails.{Permissions, Target, takes_target, carried_by, perms_at, target_at, comma_at}
use Rattle.rule.specs.Rules.{Qualifiers, RuleRead, qualifiers_at, pattern_from, pattern_at, rule_end, rule_from, body_at, Step, More, Close, rule_at}
use Rattle.laws.proofs.Steps.{step, unless, inner}
use Rattle.laws.specs.Written.{Written, word_if, words_by, qualifier_words, Targets, targets_at, written_at, SameTokens, says, perms_by, transition_by, target_by, meaning}

-- ---- the same tokens say the same

-- the same letters carry the same permissions
carried_same : (v w : List ℕ) → ((b : ℕ) → holds b v ≡ holds b w) → carried v ≡ carried w
unfolding carried
carried_same v w h = λ i. set_of 7 (λ k. h (get_or letters k 0) i || (eqb k 2 && h (code "w") i))

pub same-meaning : (v w : Written) → SameTokens v w → meaning v ≡ meaning w
unfolding meaning same bytes
same-meaning v w h = λ i.
    let said : Option Word = with_mode (deny i) (perms (carried_same v.perms w.perms h.letters i)) (h.mode i) in
    record {
      audit = h.qualifiers (bytes "audit") refl i;
      deny = deny i;
      owner = h.qualifiers (bytes "owner") refl i;
      pattern = h.pattern i;
      perms = perms_by said;
      transition = transition_by said;
      target = target_by (h.target i);
    }
  where
    deny : some (same (bytes "deny")) v.qualifiers ≡ some (same (bytes "deny")) w.qualifiers
    deny = h.qualifiers (bytes "deny") refl

-- ---- the words before the pattern

-- whether a word is among those found: one more word that is another, or that is this one
another : (k w : List ℕ) (b : Bool) (more : List (List ℕ)) → same k w ≡ false → some (same k) (word_if b w ++ more) ≡ some (same k) more
unfolding some
another k w true more e = rw e
another k w false more e = refl

this : (k : List ℕ) (b : Bool) (more : List (List ℕ)) → some (same k) more ≡ false → some (same k) (word_if b k ++ more) ≡ b
unfolding some
this k true more e = rw (same_self k)
this k false more e = e

-- the last word
last : (k w : List ℕ) (b : Bool) → some (same k) (word_if b w) ≡ (b && same k w)
unfolding some
last k w true = or-false (same k w)
last k w false = refl

module _ (a l d o : Bool) where
  abbrev owned : List (List ℕ)
  owned = word_if o (bytes "owner")

  abbrev denied : List (List ℕ)
  denied = word_if d (bytes "deny") ++ owned

  abbrev allowed : List (List ℕ)
  allowed = word_if l (bytes "allow") ++ denied

  by-audit : some (same (bytes "audit")) (words_by a l d o) ≡ a
  unfolding words_by bytes same
  by-audit =
      this (bytes "audit") a allowed
      (another (bytes "audit") (bytes "allow") l denied refl ∙ another (bytes "audit") (bytes "deny") d owned refl ∙ last (bytes "audit") (bytes "owner") o ∙ and-false o)

  by-deny : some (same (bytes "deny")) (words_by a l d o) ≡ d
  unfolding words_by bytes same
  by-deny =
      another (bytes "deny") (bytes "audit") a allowed refl
      ∙ another (bytes "deny") (bytes "allow") l denied refl
      ∙ this (bytes "deny") d owned (last (bytes "deny") (bytes "owner") o ∙ and-false o)

  by-owner : some (same (bytes "owner")) (words_by a l d o) ≡ o
  unfolding words_by bytes same
  by-owner =
      another (bytes "owner") (bytes "audit") a allowed refl
      ∙ another (bytes "owner") (bytes "allow") l denied refl
      ∙ another (bytes "owner") (bytes "deny") d owned refl
      ∙ last (bytes "owner") (bytes "owner") o
      ∙ and-true o

module _ (s : List ℕ) (at : ℕ) where
  words-audit : some (same (bytes "audit")) (qualifier_words s at) ≡ (qualifiers_at s at).audit
  unfolding qualifier_words qualifiers_at
  words-audit = by-audit _ _ _ _

  words-deny : some (same (bytes "deny")) (qualifier_words s at) ≡ (qualifiers_at s at).deny
  unfolding qualifier_words qualifiers_at
  words-deny = by-deny _ _ _ _

  words-owner : some (same (bytes "owner")) (qualifier_words s at) ≡ (qualifiers_at s at).owner
  unfolding qualifier_words qualifiers_at
  words-owner = by-owner _ _ _ _

-- ---- PERMS and the target

-- a good word carries what its letters and its mode say
word-says : (deny : Bool) (w : List ℕ) (p : Perms) (tr : Option Mode) → word_of deny w ≡ carries p tr → says deny w ≡ carries p tr
unfolding word_of
word-says deny [] p tr e = let z : ◌≡◌ {A = ℕ} 0 1 = cc in absurd (omega arith)
word-says deny (b ∷ w) p tr e = go (holds (code "w") (b ∷ w) && holds (code "a") (b ∷ w)) e
  where
    go : (both : Bool) → (if both then None else says deny (b ∷ w)) ≡ carries p tr → says deny (b ∷ w) ≡ carries p tr
    go true q = let z : ◌≡◌ {A = ℕ} 0 1 = cc in absurd (omega arith)
    go false q = q

-- PERMS as read and as written
record PermsSaid (deny : Bool) (s : List ℕ) (at : ℕ) (p : Permissions) : Type 0 where
  token : Token
  stands : wanted (token_at comma s at) ≡ Read token
  next : p.next ≡ token.next
  said : says deny token.content ≡ carries p.perms p.transition

perms-said : (deny : Bool) (s : List ℕ) (at : ℕ) (p : Permissions) → perms_at deny s at ≡ Read p → PermsSaid deny s at p
unfolding perms_at
perms-said deny s at p e = go (wanted (token_at comma s at)) refl e
  where
    by : (t : Token) (w : Option Word) → carried_by t w ≡ Read p → (p.next ≡ t.next) × (w ≡ carries p.perms p.transition)
    by t (Some v) f = let k : p ≡ record { perms = v.perms; transition = v.transition; next = t.next } = cc in rw k (refl, refl)
    by t None f = let z : ◌≡◌ {A = ℕ} 0 1 = cc in absurd (omega arith)

    go : (x : Reading Token) → wanted (token_at comma s at) ≡ x
        → (x >>= λ t. refuse_if (t.quoted || is_word t (bytes ",")) 4 t.start >>= λ _. carried_by t (word_of deny t.content)) ≡ Read p → PermsSaid deny s at p
    go (Read t) f q =
        let k = by t (word_of deny t.content) (unless (t.quoted || is_word t (bytes ",")) 4 t.start _ p q) in
        record { token = t; stands = f; next = k.0; said = word-says deny t.content p.perms p.transition k.1 }
    go (Refused n m) f q = let z : ◌≡◌ {A = ℕ} 0 1 = cc in absurd (omega arith)

-- the target as read and as written
record TargetSaid (s : List ℕ) (at : ℕ) (to : Target) : Type 0 where
  targets : Targets
  stands : targets_at s at ≡ Read targets
  next : to.next ≡ targets.next
  said : target_by targets.words ≡ to.target

target-said : (tr : Option Mode) (s : List ℕ) (at : ℕ) (to : Target) → target_at tr s at ≡ Read to → TargetSaid s at to
unfolding target_at targets_at
target-said tr s at to e = go (stands_at (bytes "->") s at) refl e
  where
    wanted_there : Reading Token
    wanted_there = wanted (token_at comma s (standing s at + 2))

    named : Token → Reading Target
    named t = do
      _ ← refuse_if (not (name_form t.quoted t.content)) 4 t.start
      _ ← refuse_if (ltb 255 (length t.content)) 9 t.start
      Read (record { target = t.content; next = t.next })

    none : stands_at (bytes "->") s at ≡ false → to ≡ record { target = []; next = at } → TargetSaid s at to
    none h k = record { targets = record { words = []; next = at }; stands = rw (h, targets_at); next = rw k; said = rw k }

    one : (t : Token) → stands_at (bytes "->") s at ≡ true → wanted_there ≡ Read t → to ≡ record { target = t.content; next = t.next } → TargetSaid s at to
    one t h f k = record { targets = record { words = t.content ∷ []; next = t.next }; stands = rw (h, targets_at, f); next = rw k; said = rw k }

    go : (b : Bool) → stands_at (bytes "->") s at ≡ b
        → (elim b as (λ _. Reading Target) [
          | false ↦ Read (record { target = []; next = at })
          | true ↦ refuse_if (not (takes_target tr)) 8 (standing s at) >>= λ _. wanted_there >>= named
        ]) ≡ Read to → TargetSaid s at to
    go true h q =
        let k = step wanted_there named to (unless (not (takes_target tr)) 8 (standing s at) _ to q) in
        let t = k.0 in
        one t h k.1 (inner (unless (ltb 255 (length t.content)) 9 t.start _ to (unless (not (name_form t.quoted t.content)) 4 t.start _ to k.2)))
    go false h q = none h (inner q)

-- ---- a whole rule

-- a rule as read and as written
pub record Said (s : List ℕ) (at : ℕ) (r : RuleRead) : Type 0 where
  pub written : Written
  pub stands : written_at s at ≡ Read written
  pub next : r.next ≡ written.next
  pub said : meaning written ≡ r.rule

-- the pattern is the token that stands there
pattern-token : (s : List ℕ) (q : Qualifiers) (t : Token) → pattern_at s q ≡ Read t → wanted (token_at no_stop s q.next) ≡ Read t
unfolding pattern_at pattern_from
pattern-token s q t e = go (wanted (token_at no_stop s q.next)) (unless (first_word (barred true) s q.next) 5 (standing s q.next) _ t e)
  where
    go : (x : Reading Token) → (x >>= λ t. refuse_if (q.some && is_word t (bytes "{")) 5 t.start >>= λ _. Read t) ≡ Read t → x ≡ Read t
    go (Read u) f = unless (q.some && is_word u (bytes "{")) 5 u.start (Read u) t f
    go (Refused n p) f = let z : ◌≡◌ {A = ℕ} 0 1 = cc in absurd (omega arith)

-- every rule that is read says what its tokens say
pub rule-said : (fault : List ℕ → ℕ) (s : List ℕ) (at : ℕ) (t : Token) (r : RuleRead) → pattern_at s (qualifiers_at s at) ≡ Read t
    → rule_from fault s (qualifiers_at s at) t ≡ Read r → Said s at r
unfolding rule_from rule_end written_at meaning
rule-said fault s at t r e f =
    let a = step (judged (fault t.content) t.start) _ r f in
    let b = step (perms_at q.deny s t.next) _ r a.2 in
    let c = step (target_at b.0.transition s b.0.next) _ r b.2 in
    let d = step (comma_at s c.0.next) _ r c.2 in
    close b.0 c.0 d.0 (perms-said q.deny s t.next b.0 b.1) (target-said b.0.transition s b.0.next c.0 c.1) d.1 d.2
  where
    q : Qualifiers
    q = qualifiers_at s at

    close : (p : Permissions) (to : Target) (next : ℕ) → PermsSaid q.deny s t.next p → TargetSaid s p.next to → comma_at s to.next ≡ Read next
        → Read (record {
          rule = record { audit = q.audit; deny = q.deny; owner = q.owner; pattern = t.content; perms = p.perms; transition = p.transition; target = to.target };
          next = next;
        }) ≡ Read r → Said s at r
    close p to next k m n h =
        let z = inner h in
        record {
          written = record { qualifiers = qualifier_words s at; pattern = t.content; perms = k.token.content; target = m.targets.words; next = next };
          stands = rw (pattern-token s q t e, k.stands, ← k.next, m.stands, ← m.next, n);
          next = rw z;
          said = rw (z, words-audit s at, words-deny s at, words-owner s at, k.said, m.said);
        }

-- a rule is read where no } stands
pub step-said : (fault : List ℕ → ℕ) (s : List ℕ) (at : ℕ) (r : RuleRead) → rule_at fault s at ≡ Read (More r) → (stands_at (bytes "}") s at ≡ false) × Said s at r
unfolding rule_at body_at
step-said fault s at r e = go (stands_at (bytes "}") s at) refl e
  where
    q : Qualifiers
    q = qualifiers_at s at

    more : (x : RuleRead) → Read (More x) ≡ Read (More r) → x ≡ r
    more x f = cc

    go : (b : Bool) → stands_at (bytes "}") s at ≡ b
        → (elim b as (λ _. Reading Step) [ true ↦ Read (Close (standing s at + 1)) | false ↦ pattern_at s q >>= λ t. rule_from fault s q t >>= λ x. Read (More x) ]) ≡ Read (More r)
        → (stands_at (bytes "}") s at ≡ false) × Said s at r
    go true h f = let z : ◌≡◌ {A = ℕ} 0 1 = cc in absurd (omega arith)
    go false h f =
        let a = step (pattern_at s q) _ (More r) f in
        let b = step (rule_from fault s q a.0) _ (More r) a.2 in
        (h, rule-said fault s at a.0 r a.1 (b.1 ∙ ap Read (more b.0 b.2)))

-- "Rules are the same when their tokens are, quotes, a written allow and the order or repeating of letters in PERMS aside": two rules of any
-- texts, whatever is a fault of a pattern there, are equal where their tokens are so the same
pub same-rule : (fault bad : List ℕ → ℕ) (s t : List ℕ) (a b : ℕ) (x y : RuleRead) (v w : Written) → rule_at fault s a ≡ Read (More x) → rule_at bad t b ≡ Read (More y)
    → written_at s a ≡ Read v → written_at t b ≡ Read w → SameTokens v w → x.rule ≡ y.rule
same-rule fault bad s t a b x y v w f g e d h =
    let k = (step-said fault s a x f).1 in
    let l = (step-said bad t b y g).1 in
    let i : v ≡ k.written = inner (sym k.stands ∙ e) in
    let j : w ≡ l.written = inner (sym l.stands ∙ d) in
    sym k.said ∙ ap meaning (sym i) ∙ same-meaning v w h ∙ ap meaning j ∙ l.said
