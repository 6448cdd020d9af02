use borrow.Author.Rules.{rules}
use Rattle.sidluqethe.proofs.sidluqethe_ask.Goals as goal

pub returns : goal.returns
returns c = rw (← c.ask_brief-b.ensures) c.write_brief.ensures
