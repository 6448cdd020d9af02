use Rattle.findings.specs.Weighed.{seen_choice}
use Rattle.findings.proofs.with_move.Goals as goal

pub returns-then-same_move : goal.returns-then-same_move
unfolding seen_choice
returns-then-same_move c = rw (c.in-Single.is, ← c.same_move.ensures, c.if-same_move.true)

pub returns-in-None : goal.returns-in-None
unfolding seen_choice
returns-in-None c = rw c.in-None.is

pub returns-else-same_move : goal.returns-else-same_move
unfolding seen_choice
returns-else-same_move c = rw (c.in-Single.is, ← c.same_move.ensures, c.if-same_move.false)

pub returns-in-Several : goal.returns-in-Several
unfolding seen_choice
returns-in-Several c = rw c.in-Several.is
