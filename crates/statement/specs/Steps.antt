-- Reading rules one at a time.
use Rattle.std.specs.Prelude.{ℕ, zero, suc, List, [], ◌∷◌, length}
use Rattle.text.specs.Reading.{Reading, Read, Refused, ◌>>=◌}
use Rattle.tokens.specs.Tokens.{Token}
use Rattle.rule.specs.Rules.{Rule, Qualifiers, RuleRead, RulesRead, Step, More, Close, body_at, rule_at, rule_from}

-- what stands where a rule could start: the } and where reading goes on behind it, or the qualifiers of a rule and its pattern
pub data Start : Type 0 where
  Closing : (next : ℕ) → Start
  Starting : Qualifiers → Token → Start

unfoldable pub start_at : List ℕ → ℕ → Reading Start
start_at s at = body_at Closing (λ q t. Read (Starting q t)) s at

-- a rule that was read
abbrev pub step_by : Reading RuleRead → Reading Step
step_by x = x >>= λ r. Read (More r)

-- the step from there, where patterns are judged so
abbrev pub step_from : (fault : List ℕ → ℕ) → List ℕ → Start → Reading Step
step_from fault s (Closing n) = Read (Close n)
step_from fault s (Starting q t) = step_by (rule_from fault s q t)

-- the first k rules from a place on, one at a time: fewer where the profile ends or a refusal stands there
abbrev pub rule_then : (RuleRead → List Rule) → Reading Step → List Rule
rule_then f (Read (More r)) = r.rule ∷ f r
rule_then f (Read (Close n)) = []
rule_then f (Refused n p) = []

unfoldable pub rules_from : (k : ℕ) → (fault : List ℕ → ℕ) → List ℕ → ℕ → List Rule
rules_from zero fault s at = []
rules_from (suc k) fault s at = rule_then (λ r. rules_from k fault s r.next) (rule_at fault s at)

-- how many rules stand in a profile, and where reading goes on
pub record Counted : Type 0 where
  pub count : ℕ
  pub next : ℕ

-- and no more
abbrev pub counted_end : ℕ → Reading ℕ → Reading Counted
counted_end k r = r >>= λ n. Read (record { count = k; next = n })

unfoldable pub counted : Reading RulesRead → Reading Counted
counted (Read r) = Read (record { count = length r.rules; next = r.next })
counted (Refused n p) = Refused n p
