use mathlib.Core.Path.{sym, ◌∙◌}
use native.Mathlib.Omega.{arith}
use Rattle.findings.specs.Weighed.{seen_choice}
use Rattle.answer.proofs.Laws.{within-x}
use Rattle.answer.proofs.execute_of.Goals as goal

pub returns-then-not-contains : goal.returns-then-not-contains
unfolding seen_choice
returns-then-not-contains c = λ s. rw (sym (within-x c.args.asked (omega arith)) ∙ sym c.contains.ensures ∙ c.if-not-contains.true)

pub returns-then-contains : goal.returns-then-contains
unfolding seen_choice
returns-then-contains c = λ s. rw (sym (within-x c.args.asked (omega arith)) ∙ sym c.contains.ensures ∙ c.if-not-contains.false, sym (within-x c.args.denied (omega arith)) ∙ sym c.contains-2.ensures ∙ c.if-contains.true)

pub returns-in-None : goal.returns-in-None
unfolding seen_choice
returns-in-None c = λ s. rw (sym (within-x c.args.asked (omega arith)) ∙ sym c.contains.ensures ∙ c.if-not-contains.false, sym (within-x c.args.denied (omega arith)) ∙ sym c.contains-2.ensures ∙ c.if-contains.false, c.in-None.is)

pub returns-in-Single : goal.returns-in-Single
unfolding seen_choice
returns-in-Single c = λ s. rw (sym (within-x c.args.asked (omega arith)) ∙ sym c.contains.ensures ∙ c.if-not-contains.false, sym (within-x c.args.denied (omega arith)) ∙ sym c.contains-2.ensures ∙ c.if-contains.false, c.in-Single.is)

pub returns-in-Several : goal.returns-in-Several
unfolding seen_choice
returns-in-Several c = λ s. rw (sym (within-x c.args.asked (omega arith)) ∙ sym c.contains.ensures ∙ c.if-not-contains.false, sym (within-x c.args.denied (omega arith)) ∙ sym c.contains-2.ensures ∙ c.if-contains.false, c.in-Several.is)
