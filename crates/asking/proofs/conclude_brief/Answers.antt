use mathlib.Core.Path.{ap, ◌∙◌}
use Rattle.answer.specs.Answers.{refusal}
use borrow.Author.Rules.{rules}
use borrow.Author.Tests.{eq-eqb, ne_eqb}
use Rattle.asking.specs.Steps.{concluded}
use Rattle.asking.proofs.conclude_brief.Goals as goal

pub returns-then-query-eq0 : goal.returns-then-query-eq0
unfolding concluded
returns-then-query-eq0 c = λ s. rw (eq-eqb _ 0 c.if-query-eq0.true) (c.finish_brief.ensures s)

pub returns : goal.returns
unfolding concluded
returns c = λ s. rw (ne_eqb _ 0 c.if-query-eq0.false) (c.refused_brief.ensures s ∙ ap refusal c.nowhere.ensures)
