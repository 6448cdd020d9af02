use Rattle.variables.specs.Added.{room}
use Rattle.preamble.specs.Places.{Upto}
use Rattle.preamble.proofs.values_at.Given as goal

abbrev pub invariant-loop-w : goal.invariant-loop-w
invariant-loop-w l = Upto l.text l.initial.vars l.w l.initial.place.0 l.vars l.place.0 l.given

abbrev pub decreases-loop-w : goal.decreases-loop-w
decreases-loop-w l = room l.vars l.w
