use Rattle.asking.specs.Steps.{out_of}
use Rattle.flat.specs.Layout.{rule_at}
use Rattle.flat.proofs.is_out_at.Goals as goal

pub returns : goal.returns
unfolding out_of rule_at
returns c = λ s. rw (c.is_out.ensures, c.front_at.ensures)
