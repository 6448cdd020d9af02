use Rattle.answer.specs.Answers.{whole_of}
use Rattle.answer.proofs.fill.Goals as goal

pub returns : goal.returns
unfolding whole_of
returns c = rw (c.target_from.ensures, c.span.ensures)
