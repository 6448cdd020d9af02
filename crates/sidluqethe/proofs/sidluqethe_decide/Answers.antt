use borrow.Author.Rules.{rules}
use Rattle.sidluqethe.proofs.sidluqethe_decide.Goals as goal

pub returns : goal.returns
returns c = rw (← c.decide-a.ensures) c.write.ensures
