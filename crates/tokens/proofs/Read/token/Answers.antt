use Rattle.tokens.specs.Places.{seen}
use Rattle.tokens.proofs.Read.token.Goals as goal

pub returns-in-Found : goal.returns-in-Found
unfolding seen
returns-in-Found c = λ s. rw c.in-Found.is

pub returns-in-Stopped : goal.returns-in-Stopped
unfolding seen
returns-in-Stopped c = λ s. rw c.in-Stopped.is

pub returns-in-End : goal.returns-in-End
unfolding seen
returns-in-End c = λ s. rw c.in-End.is
