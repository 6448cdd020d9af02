use mathlib.Core.Path.{◌∙◌}
use Rattle.text.proofs.Refusals.{seen-refused}
use Rattle.rule.specs.Rules.{rule_end}
use Rattle.statement.proofs.rule_end.Goals as goal

pub returns-in_err-to-clause-result_value : goal.returns-in_err-to-clause-result_value
unfolding rule_end
returns-in_err-to-clause-result_value c = seen-refused _ _ c.from_residual.ensures.1 ∙ rw (← c.in_err-to.ensures, rule_end)

pub returns-in_err-next-clause-result_value : goal.returns-in_err-next-clause-result_value
unfolding rule_end
returns-in_err-next-clause-result_value c = seen-refused _ _ c.from_residual-in_err-next.ensures.1 ∙ rw (← c.in_ok-to.ensures, ← c.in_err-next.ensures, rule_end)

pub returns-clause-result_value : goal.returns-clause-result_value
unfolding rule_end
returns-clause-result_value c = rw (← c.in_ok-to.ensures, ← c.in_ok-next.ensures, rule_end)
