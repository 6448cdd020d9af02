use Prim.Native.Nat.{◌-◌}
use Rattle.pattern.specs.Table.{env}
use Rattle.profile.proofs.Laws.{SoFar}
use Rattle.profile.proofs.profiles_at.Given as goal

abbrev pub invariant-loop-place : goal.invariant-loop-place
invariant-loop-place l = SoFar (env l.text l.vars l.n) l.text l.allowed l.initial.place.0 l.profiles l.left l.place.0

abbrev pub decreases-loop-place : goal.decreases-loop-place
decreases-loop-place l = 32 - l.profiles.count
