-- Record by record: what stands before place i was read, and what stands from it on is as it was.
use Rattle.table.proofs.Filling.{Filling}
use Rattle.table.proofs.read.Given as goal

abbrev pub invariant-loop-i : goal.invariant-loop-i
invariant-loop-i l = Filling l.text l.head l.initial.table l.i l.at l.table
