use mathlib.Core.Path.{◌∙◌}
use Rattle.text.proofs.Refusals.{seen-refused}
use Rattle.rule.specs.Rules.{rule_from}
use Rattle.statement.proofs.rule_rest.Goals as goal

pub returns-in_err-p-clause-result_value : goal.returns-in_err-p-clause-result_value
unfolding rule_from
returns-in_err-p-clause-result_value c = seen-refused _ _ c.from_residual.ensures.1 ∙ rw (← c.in_err-p.ensures)

pub returns-clause-result_value : goal.returns-clause-result_value
unfolding rule_from
returns-clause-result_value c = c.rule_end.ensures.result_value ∙ rw (← c.in_ok-p.ensures)
