-- Rules that were read are sound.
use Rattle.std.proofs.Common.{Option, None, Some}
use Rattle.std.specs.Prelude.{Option, Some, None, if◌then◌else◌}
use Prim.Native.Nat.{ℕ, zero, suc, ◌+◌, ◌<◌}
use Prim.Native.Char.{code}
use mathlib.Core.Path.{◌≡◌, refl, subst}
use mathlib.Core.List.{List, [], ◌∷◌}
use mathlib.Core.Bool.{Bool, true, false, ◌||◌, ◌&&◌}
use lib.Dec.{eqb}
use lib.ListN.{get_or}
use Rattle.scan.specs.Bytes.{bytes, every, holds, same}
use Rattle.perms.specs.Sets.{perms}
use Rattle.modes.specs.Modes.{modes, mode_in}
use Rattle.perms_word.specs.Words.{carried, carries, letters, mode_part, named, with_mode, word_of}
use Rattle.perms.specs.declared.Perms.{Perms}
use Rattle.modes.specs.declared.Mode.{Mode}
use Rattle.perms_word.specs.declared.Word.{Word}
use Rattle.perms.proofs.Laws.{set-lt}
use Rattle.text.specs.Reading.{Reading, Read, Refused, ◌>>=◌, refuse_if, judged}
use Rattle.tokens.specs.Tokens.{Token, comma, is_word, token_at, wanted}
use Rattle.blanks.specs.Blanks.{standing, stands_at}
use Rattle.pattern.specs.Expansions.{Variable}
use Rattle.pattern.specs.Faults.{pattern_fault}
use Rattle.rule.specs.Rules.{Rule, RuleRead, Qualifiers, Step, More, Close, body_at, pattern_at, qualifiers_at, rule_at, rule_end, rule_from}
use Rattle.rule_tail.specs.Tails.{Permissions, Target, carried_by, comma_at, perms_at, target_at}
use Rattle.statement.specs.Steps.{rule_then, rules_from}

-- the pattern has no fault, the permissions are some of the seven
pub record Sound (vs : List Variable) (r : Rule) : Type 0 where
  pub good : pattern_fault vs r.pattern ≡ 0
  pub below : r.perms.0 < 128

-- P holds of every element
abbrev pub All : {A : Type 0} → (A → Type 0) → List A → Type 0
All P [] = Unit {0}
All P (x ∷ xs) = P x × All P xs

-- ---- P holds of what was read, if anything was

abbrev Holds : {A : Type 0} → (A → Type 0) → Reading A → Type 0
Holds P (Read a) = P a
Holds P (Refused n p) = Unit {0}

module _ {B : Type 0} (Q : B → Type 0) where
  read-then : {A : Type 0} (P : A → Type 0) (x : Reading A) (f : A → Reading B) → Holds P x → ((a : A) → P a → Holds Q (f a)) → Holds Q (x >>= f)
  read-then P (Read a) f h k = k a h
  read-then P (Refused n p) f h k = tt

  any-then : {A : Type 0} (x : Reading A) (f : A → Reading B) → ((a : A) → Holds Q (f a)) → Holds Q (x >>= f)
  any-then (Read a) f k = k a
  any-then (Refused n p) f k = tt

  unless-then : (b : Bool) (n p : ℕ) (y : Reading B) → (b ≡ false → Holds Q y) → Holds Q (refuse_if b n p >>= λ _. y)
  unless-then true n p y k = tt
  unless-then false n p y k = k refl

  judged-then : (n p : ℕ) (y : Reading B) → (n ≡ 0 → Holds Q y) → Holds Q (judged n p >>= λ _. y)
  judged-then zero p y k = k refl
  judged-then (suc n) p y k = tt

-- ---- PERMS

abbrev Below : Option Word → Type 0
Below (Some w) = w.perms.0 < 128
Below None = Unit {0}

carried-lt : (w : List ℕ) → carried w < 128
unfolding carried
carried-lt w = set-lt 7 (λ k. holds (get_or letters k 0) w || (eqb k 2 && holds (code "w") w))

module _ (p : Perms) (h : p.0 < 128) where
  named-below : (t : Option Mode) → Below (named p t)
  named-below None = tt
  named-below (Some m) = h

  mode-below : (deny : Bool) (m : List ℕ) → Below (with_mode deny p m)
  unfolding with_mode
  mode-below true [] = h
  mode-below false [] = h
  mode-below true (b ∷ m) = go (same (b ∷ m) (bytes "x"))
    where
      go : (x : Bool) → Below (elim x as (λ _. Option Word) [ true ↦ carries p None | false ↦ None ])
      go true = h
      go false = tt
  mode-below false (b ∷ m) = named-below (mode_in modes (b ∷ m))

word_below : (deny : Bool) (w : List ℕ) → Below (word_of deny w)
unfolding word_of
word_below deny [] = tt
word_below deny (b ∷ w) = go (holds (code "w") (b ∷ w) && holds (code "a") (b ∷ w))
  where
    go : (x : Bool) → Below (if x then None else with_mode deny (perms (carried (b ∷ w))) (mode_part (b ∷ w)))
    go true = tt
    go false = mode-below (perms (carried (b ∷ w))) (carried-lt (b ∷ w)) deny (mode_part (b ∷ w))

abbrev Few : Permissions → Type 0
Few p = p.perms.0 < 128

carries-few : (t : Token) (w : Option Word) → Below w → Holds Few (carried_by t w)
carries-few t (Some w) h = h
carries-few t None h = tt

perms-few : (deny : Bool) (s : List ℕ) (at : ℕ) → Holds Few (perms_at deny s at)
unfolding perms_at
perms-few deny s at =
    any-then Few (wanted (token_at comma s at)) (λ t. refuse_if (t.quoted || is_word t (bytes ",")) 4 t.start >>= λ _. carried_by t (word_of deny t.content))
    (λ t. unless-then Few (t.quoted || is_word t (bytes ",")) 4 t.start (carried_by t (word_of deny t.content))
    (λ _. carries-few t (word_of deny t.content) (word_below deny t.content)))

pub perms-below : (deny : Bool) (s : List ℕ) (at : ℕ) (p : Permissions) → perms_at deny s at ≡ Read p → p.perms.0 < 128
perms-below deny s at p e = subst (Holds Few) e (perms-few deny s at)

-- ---- a rule

module _ (vs : List Variable) (s : List ℕ) where
  abbrev SoundRule : RuleRead → Type 0
  SoundRule r = Sound vs r.rule

  from-sound : (q : Qualifiers) (t : Token) → Holds SoundRule (rule_from (pattern_fault vs) s q t)
  unfolding rule_from rule_end
  from-sound q t =
      judged-then SoundRule (pattern_fault vs t.content) t.start (perms_at q.deny s t.next >>= rule_end s q t) λ good.
      read-then SoundRule Few (perms_at q.deny s t.next) (rule_end s q t) (perms-few q.deny s t.next) λ p few.
      any-then SoundRule (target_at p.transition s p.next) (after-target p) λ to.
      any-then SoundRule (comma_at s to.next) (whole p to) λ n. record { good = good; below = few }
    where
      whole : Permissions → Target → ℕ → Reading RuleRead
      whole p to next =
          Read (record {
            rule = record { audit = q.audit; deny = q.deny; owner = q.owner; pattern = t.content; perms = p.perms; transition = p.transition; target = to.target };
            next = next;
          })

      after-target : Permissions → Target → Reading RuleRead
      after-target p to = comma_at s to.next >>= whole p to

  abbrev SoundStep : Step → Type 0
  SoundStep (More r) = SoundRule r
  SoundStep (Close n) = Unit {0}

  step-sound : (at : ℕ) → Holds SoundStep (rule_at (pattern_fault vs) s at)
  unfolding rule_at body_at
  step-sound at = go (stands_at (bytes "}") s at)
    where
      from : Token → Reading Step
      from t = rule_from (pattern_fault vs) s (qualifiers_at s at) t >>= λ r. Read (More r)

      go : (b : Bool) → Holds SoundStep (elim b as (λ _. Reading Step) [ true ↦ Read (Close (standing s at + 1)) | false ↦ pattern_at s (qualifiers_at s at) >>= from ])
      go true = tt
      go false =
          any-then SoundStep (pattern_at s (qualifiers_at s at)) from λ t.
          read-then SoundStep SoundRule (rule_from (pattern_fault vs) s (qualifiers_at s at) t) (λ r. Read (More r)) (from-sound (qualifiers_at s at) t) λ r h. h

  -- a rule that was read is sound
  pub rule-sound : (at : ℕ) (r : RuleRead) → rule_at (pattern_fault vs) s at ≡ Read (More r) → Sound vs r.rule
  rule-sound at r e = subst (Holds SoundStep) e (step-sound at)

  pub rules-sound : (k at : ℕ) → All (Sound vs) (rules_from k (pattern_fault vs) s at)
  unfolding rules_from
  rules-sound zero at = tt
  rules-sound (suc k) at = go (rule_at (pattern_fault vs) s at) (step-sound at) (λ n. rules-sound k n)
    where
      go : (x : Reading Step) → Holds SoundStep x → ((n : ℕ) → All (Sound vs) (rules_from k (pattern_fault vs) s n)) → All (Sound vs) (rule_then (λ r. rules_from k (pattern_fault vs) s r.next) x)
      go (Read (More r)) h more = (h, more r.next)
      go (Read (Close n)) h more = tt
      go (Refused n p) h more = tt
