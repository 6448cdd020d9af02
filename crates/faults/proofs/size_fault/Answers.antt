use Rattle.faults.specs.Sized.{size_fault}
use Rattle.faults.proofs.size_fault.Goals as goal

pub returns-then-z : goal.returns-then-z
unfolding size_fault
returns-then-z c = rw (c.if-z.true, size_fault)

pub returns-then-z-2 : goal.returns-then-z-2
unfolding size_fault
returns-then-z-2 c = rw (c.if-z.false, c.if-z-2.true, size_fault)

pub returns : goal.returns
unfolding size_fault
returns c = rw (c.if-z.false, c.if-z-2.false, size_fault)
