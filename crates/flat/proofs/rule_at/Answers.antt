use Rattle.flat.specs.Layout.{rule_at}
use Rattle.flat.proofs.rule_at.Goals as goal

pub returns : goal.returns
unfolding rule_at
returns c = rw (c.has_bit-3.ensures, c.has_bit-2.ensures, c.has_bit.ensures, c.transition_in-transition.ensures)
