use Rattle.tokens.specs.Places.{stop_of}
use Rattle.tokens.proofs.stop_of.Goals as goal

pub returns-in-Found : goal.returns-in-Found
unfolding stop_of
returns-in-Found c = rw c.in-Found.is

pub returns-in-Stopped : goal.returns-in-Stopped
unfolding stop_of
returns-in-Stopped c = rw c.in-Stopped.is

pub returns-in-End : goal.returns-in-End
unfolding stop_of
returns-in-End c = rw c.in-End.is
