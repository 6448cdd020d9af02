-- What the code's values mean over the text.
use Rattle.std.specs.Prelude.{ℕ, ◌≡◌, List, false, if◌then◌else◌}
use Rattle.scan.specs.Bytes.{bytes}
use Rattle.text.specs.Places.{span_of}
use Rattle.tokens.specs.Tokens.{no_stop, token_at}
use Rattle.tokens.specs.Places.{seen}
use Rattle.rule.specs.Rules.{Rule, Optional, Qualifiers, optional, qualifiers_at}
use Rattle.rule.specs.declared as code

-- deny, unless allow stands there
abbrev pub deny_after : List ℕ → Optional → Optional
deny_after s l = if l.found then record { found = false; next = l.next } else optional (bytes "deny") s l.next

-- a rule with its bytes instead of their places
abbrev pub rule_of : List ℕ → code.Rule.Rule → Rule
rule_of s r =
    record {
      audit = r.audit;
      deny = r.deny;
      owner = r.owner;
      pattern = span_of s r.pattern;
      perms = r.perms;
      transition = r.transition;
      target = span_of s r.target;
    }

-- optional words and the qualifiers, without the token that follows
abbrev pub seen_optional : code.Optional.Optional → Optional
seen_optional o = record { found = o.found; next = o.next.0 }

abbrev pub seen_qualifiers : code.Qualifiers.Qualifiers → Qualifiers
seen_qualifiers q = record { audit = q.audit; deny = q.deny; owner = q.owner; some = q.some; next = q.next.0 }

-- a word taken where the next token is known: the token after it is known too
pub record Taken (s w : List ℕ) (at : ℕ) (o : code.Optional.Optional) : Type 0 where
  pub is : seen_optional o ≡ optional w s at
  pub token : seen s o.token ≡ token_at no_stop s o.next.0

-- deny where allow was looked for
pub record Denied (s : List ℕ) (allow o : code.Optional.Optional) : Type 0 where
  pub is : seen_optional o ≡ deny_after s (seen_optional allow)
  pub token : seen s o.token ≡ token_at no_stop s o.next.0

-- the qualifiers, and the token that follows them
pub record Qualified (s : List ℕ) (at : ℕ) (q : code.Qualifiers.Qualifiers) : Type 0 where
  pub is : seen_qualifiers q ≡ qualifiers_at s at
  pub token : seen s q.token ≡ token_at no_stop s q.next.0
