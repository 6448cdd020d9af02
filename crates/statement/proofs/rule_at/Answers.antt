use mathlib.Core.Path.{ap, ◌∙◌}
use Rattle.text.proofs.Refusals.{seen-refused}
use Rattle.faults.specs.Sized.{fault_by}
use Rattle.statement.specs.Steps.{step_by}
use Rattle.statement.proofs.Laws.{by-start}
use Rattle.statement.proofs.rule_at.Goals as goal

pub returns-in_err-start-clause-result_value : goal.returns-in_err-start-clause-result_value
returns-in_err-start-clause-result_value c =
    seen-refused _ _ c.from_residual.ensures.1 ∙ by-start (fault_by c.args.text.now c.args.vars.now c.args.n c.args.sizes.now) c.args.text.now c.args.at.0 c.standing_at-place.ensures c.in_err-start.ensures

pub returns-in-Close-clause-result_value : goal.returns-in-Close-clause-result_value
returns-in-Close-clause-result_value c =
    by-start (fault_by c.args.text.now c.args.vars.now c.args.n c.args.sizes.now) c.args.text.now c.args.at.0 c.standing_at-place.ensures (rw c.in-Close.is at c.in_ok-start.ensures)

pub returns-in_err-read-in-Pattern-clause-result_value : goal.returns-in_err-read-in-Pattern-clause-result_value
returns-in_err-read-in-Pattern-clause-result_value c =
    seen-refused _ _ c.from_residual-in_err-read-in-Pattern.ensures.1
    ∙ ap step_by c.in_err-read-in-Pattern.ensures.result_value
    ∙ by-start (fault_by c.args.text.now c.args.vars.now c.args.n c.args.sizes.now) c.args.text.now c.args.at.0 c.standing_at-place.ensures (rw c.in-Pattern.is at c.in_ok-start.ensures)

pub returns-in_ok-read-in-Pattern-clause-result_value : goal.returns-in_ok-read-in-Pattern-clause-result_value
returns-in_ok-read-in-Pattern-clause-result_value c =
    ap step_by c.in_ok-read-in-Pattern.ensures.result_value
    ∙ by-start (fault_by c.args.text.now c.args.vars.now c.args.n c.args.sizes.now) c.args.text.now c.args.at.0 c.standing_at-place.ensures (rw c.in-Pattern.is at c.in_ok-start.ensures)
