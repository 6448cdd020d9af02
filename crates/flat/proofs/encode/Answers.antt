use Rattle.flat.specs.Layout.{encoded}
use Rattle.flat.proofs.encode.Goals as goal

pub returns-clause-same : goal.returns-clause-same
unfolding encoded
returns-clause-same c = rw (c.transition_number.ensures, c.number-3.ensures.same, c.number-2.ensures.same, c.number.ensures.same)
