use mathlib.Core.Path.{◌∙◌}
use Rattle.rule.specs.Rules.{rule_from}
use Rattle.statement.proofs.Laws.{judged-bad}
use Rattle.statement.proofs.rule_from.Goals as goal

pub returns-then-fault-ne0-clause-result_value : goal.returns-then-fault-ne0-clause-result_value
unfolding rule_from
returns-then-fault-ne0-clause-result_value c =
    rw (← c.pattern_fault-fault.ensures, judged-bad _ _ c.if-fault-ne0.true, rule_from)

pub returns-clause-result_value : goal.returns-clause-result_value
unfolding rule_from
returns-clause-result_value c =
    c.rule_rest.ensures.result_value ∙ rw (← c.pattern_fault-fault.ensures, c.if-fault-ne0.false, rule_from)
