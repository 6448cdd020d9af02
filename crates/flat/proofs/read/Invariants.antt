use Rattle.flat.proofs.Filling.{Filling}
use Rattle.flat.proofs.read.Given as goal

abbrev pub invariant-loop-i : goal.invariant-loop-i
invariant-loop-i l = Filling l.text l.initial.memory l.i l.at l.memory
