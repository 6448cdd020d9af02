use Rattle.findings.specs.Weighed.{seen_choice}
use Rattle.answer.proofs.target_of.Goals as goal

pub returns-then-not-mode : goal.returns-then-not-mode
unfolding seen_choice
returns-then-not-mode c = λ s. rw c.if-not-mode.true (c.no_target.ensures s)

pub returns-in-None : goal.returns-in-None
unfolding seen_choice
returns-in-None c = λ s. rw (c.if-not-mode.false, c.in-None.is) (c.no_target-in-None.ensures s)

pub returns-in-Single : goal.returns-in-Single
unfolding seen_choice
returns-in-Single c = λ s. rw (c.if-not-mode.false, c.in-Single.is)

pub returns-in-Several : goal.returns-in-Several
unfolding seen_choice
returns-in-Several c = λ s. rw (c.if-not-mode.false, c.in-Several.is) (c.no_target-in-Several.ensures s)
