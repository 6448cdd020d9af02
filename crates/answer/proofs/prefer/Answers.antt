use Rattle.findings.specs.Weighed.{seen_choice}
use Rattle.answer.proofs.prefer.Goals as goal

pub returns-in-None : goal.returns-in-None
unfolding seen_choice
returns-in-None c = λ s. rw c.in-None.is

pub returns-in-Single : goal.returns-in-Single
unfolding seen_choice
returns-in-Single c = λ s. rw c.in-Single.is

pub returns-in-Several : goal.returns-in-Several
unfolding seen_choice
returns-in-Several c = λ s. rw c.in-Several.is
