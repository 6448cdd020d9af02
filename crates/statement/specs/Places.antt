-- What the code's values mean over the text.
use Rattle.std.specs.Prelude.{ℕ, List, Result, Ok, Err}
use Rattle.text.specs.Reading.{Reading}
use Rattle.text.specs.Places.{seen_by}
use Rattle.text.specs.declared.Stop.{Stop}
use Rattle.rule.specs.Rules.{RuleRead, Step, More, Close}
use Rattle.rule.specs.Places.{rule_of, seen_qualifiers}
use Rattle.tokens.specs.Places.{token_of}
use Rattle.statement.specs.Steps.{Start, Closing, Starting}
use Rattle.statement.specs.declared as code
use Rattle.statement.specs.declared.Start.TheVariants as start
use Rattle.statement.specs.declared.Step.TheVariants as step

-- a rule, what stands where one could start, and a step, with bytes instead of their places
abbrev pub read_of : List ℕ → code.RuleRead.RuleRead → RuleRead
read_of s r = record { rule = rule_of s r.rule; next = r.next.0 }

abbrev pub start_of : List ℕ → code.Start.Start → Start
start_of s (start.Close n) = Closing n.0
start_of s (start.Pattern q t) = Starting (seen_qualifiers q) (token_of s t)

abbrev pub step_of : List ℕ → code.Step.Step → Step
step_of s (step.Rule r n) = More (record { rule = rule_of s r; next = n.0 })
step_of s (step.Close n) = Close n.0

-- what was read, or the refusal
abbrev pub seen_rule : List ℕ → Result code.RuleRead.RuleRead Stop → Reading RuleRead
seen_rule s r = seen_by (read_of s) r

abbrev pub seen_start : List ℕ → Result code.Start.Start Stop → Reading Start
seen_start s r = seen_by (start_of s) r

abbrev pub seen_step : List ℕ → Result code.Step.Step Stop → Reading Step
seen_step s r = seen_by (step_of s) r

-- the profile of the rule that was read, if one was: else p
abbrev pub profile_of : (p : ℕ) → Result code.RuleRead.RuleRead Stop → ℕ
profile_of p (Ok r) = r.rule.profile
profile_of p (Err stop) = p

abbrev pub profile_in : (p : ℕ) → Result code.Step.Step Stop → ℕ
profile_in p (Ok (step.Rule r n)) = r.profile
profile_in p (Ok (step.Close n)) = p
profile_in p (Err stop) = p
