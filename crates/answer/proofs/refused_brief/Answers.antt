use Rattle.answer.specs.Answers.{whole_of}
use Rattle.answer.proofs.refused_brief.Goals as goal

pub returns : goal.returns
unfolding whole_of
returns c = λ s. rw (c.no_target.ensures s)
