-- The rules of a profile, as read from a text.
use Rattle.std.specs.Prelude.{ℕ, zero, suc, ◌+◌, List, [], ◌∷◌, Bool, true, false, ◌||◌, ◌&&◌, if◌then◌else◌, Option}
use Rattle.scan.specs.Bytes.{bytes}
use Rattle.perms.specs.declared.Perms.{Perms}
use Rattle.modes.specs.declared.Mode.{Mode}
use Rattle.text.specs.Reading.{Reading, Read, Refused, ◌>>=◌, refuse_if, judged}
use Rattle.tokens.specs.Tokens.{Token, Next, Found, Stopped, End, is_word, no_stop, token_at, wanted}
use Rattle.blanks.specs.Blanks.{standing, stands_at}
use Rattle.keywords.specs.Keywords.{barred, first_word}
use Rattle.rule_tail.specs.Tails.{Permissions, perms_at, target_at, comma_at}

-- a rule: its qualifiers, pattern, permissions with the mode if any, and target, empty where there is none
pub record Rule : Type 0 where
  pub audit : Bool
  pub deny : Bool
  pub owner : Bool
  pub pattern : List ℕ
  pub perms : Perms
  pub transition : Option Mode
  pub target : List ℕ

-- ---- "[audit] [allow|deny] [owner] PATTERN"

-- a word that may stand at a place, and where reading goes on
pub record Optional : Type 0 where
  pub found : Bool
  pub next : ℕ

abbrev pub if_word : (word : List ℕ) → ℕ → Next → Optional
if_word w at (Found t) = if is_word t w then record { found = true; next = t.next } else record { found = false; next = at }
if_word w at (Stopped n p) = record { found = false; next = at }
if_word w at (End p) = record { found = false; next = at }

unfoldable pub optional : (word : List ℕ) → List ℕ → ℕ → Optional
optional w s at = if_word w at (token_at no_stop s at)

pub record Qualifiers : Type 0 where
  pub audit : Bool
  pub deny : Bool
  pub owner : Bool
  pub some : Bool
  pub next : ℕ

unfoldable pub qualifiers_at : List ℕ → ℕ → Qualifiers
qualifiers_at s at =
    let a : Optional = optional (bytes "audit") s at in
    let l : Optional = optional (bytes "allow") s a.next in
    let d : Optional = if l.found then record { found = false; next = l.next } else optional (bytes "deny") s l.next in
    let o : Optional = optional (bytes "owner") s d.next in
    record { audit = a.found; deny = d.found; owner = o.found; some = a.found || l.found || d.found || o.found; next = o.next }

-- the pattern's token: "a statement is refused 5 when, after any qualifiers in the rule's order, its unquoted first word is one of
-- these", "and a lone { after a qualifier"; "inside a profile any other word there is read as the pattern"
unfoldable pub pattern_from : List ℕ → Next → Qualifiers → Reading Token
pattern_from s next q = do
  _ ← refuse_if (first_word (barred true) s q.next) 5 (standing s q.next)
  t ← wanted next
  _ ← refuse_if (q.some && is_word t (bytes "{")) 5 t.start
  Read t

unfoldable pub pattern_at : List ℕ → Qualifiers → Reading Token
pattern_at s q = pattern_from s (token_at no_stop s q.next) q

-- ---- a whole rule

pub record RuleRead : Type 0 where
  pub rule : Rule
  pub next : ℕ

-- the rule with these qualifiers and this pattern, by what follows its PERMS
unfoldable pub rule_end : List ℕ → Qualifiers → Token → Permissions → Reading RuleRead
rule_end s q t p = do
  to ← target_at p.transition s p.next
  next ← comma_at s to.next
  Read (record {
    rule = record { audit = q.audit; deny = q.deny; owner = q.owner; pattern = t.content; perms = p.perms; transition = p.transition; target = to.target };
    next = next;
  })

-- the rule with these qualifiers and this pattern, whose fault is judged first
unfoldable pub rule_from : (fault : List ℕ → ℕ) → List ℕ → Qualifiers → Token → Reading RuleRead
rule_from fault s q t = do
  _ ← judged (fault t.content) t.start
  p ← perms_at q.deny s t.next
  rule_end s q t p

-- "} where a rule could start ends the profile"; else a rule stands there
unfoldable pub body_at : {A : Type 0} → (end : ℕ → A) → (rule : Qualifiers → Token → Reading A) → List ℕ → ℕ → Reading A
body_at end rule s at =
    elim (stands_at (bytes "}") s at) [
      | true ↦ Read (end (standing s at + 1))
      | false ↦ do
        t ← pattern_at s (qualifiers_at s at)
        rule (qualifiers_at s at) t
    ]

-- one rule more, or the } that ends the profile, and where reading goes on
pub data Step : Type 0 where
  More : RuleRead → Step
  Close : (next : ℕ) → Step

unfoldable pub rule_at : (fault : List ℕ → ℕ) → List ℕ → ℕ → Reading Step
rule_at fault s at = body_at Close (λ q t. rule_from fault s q t >>= λ r. Read (More r)) s at

-- where no more rule is allowed: the }, or "9 for being one rule too many" at its pattern
unfoldable pub end_at : List ℕ → ℕ → Reading ℕ
end_at s at = body_at (λ n. n) (λ q t. Refused 9 t.start) s at

-- ---- all rules of a profile

pub record RulesRead : Type 0 where
  pub rules : List Rule
  pub next : ℕ

-- no rule, or a rule and those that follow it
abbrev pub no_rules : ℕ → RulesRead
no_rules next = record { rules = []; next = next }

abbrev pub followed : RuleRead → Reading RulesRead → Reading RulesRead
followed r more = more >>= λ m. Read (record { rules = r.rule ∷ m.rules; next = m.next })

abbrev pub step_then : (RuleRead → Reading RulesRead) → Step → Reading RulesRead
step_then more (More r) = followed r (more r)
step_then more (Close n) = Read (no_rules n)

-- the rules from a place on, where so many more are allowed
unfoldable pub rules_at : (left : ℕ) → (fault : List ℕ → ℕ) → List ℕ → ℕ → Reading RulesRead
rules_at zero fault s at = end_at s at >>= λ n. Read (no_rules n)
rules_at (suc left) fault s at = rule_at fault s at >>= step_then (λ r. rules_at left fault s r.next)
