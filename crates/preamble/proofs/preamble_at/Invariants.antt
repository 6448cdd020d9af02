use Prim.Native.Nat.{◌≤◌}
use mathlib.Core.Path.{◌≡◌}
use mathlib.Core.List.{[]}
use Rattle.pattern.specs.Table.{env}
use Rattle.preamble.specs.Preamble.{preamble_at}
use Rattle.preamble.specs.Places.{preamble_of}
use Rattle.preamble.proofs.preamble_at.Given as goal

abbrev pub invariant-loop-vars : goal.invariant-loop-vars
invariant-loop-vars l = (preamble_of (preamble_at l.left (env l.text l.vars l.count) l.text l.at.0) ≡ preamble_of (preamble_at 512 [] l.text 0)) × (l.count ≤ 32)

abbrev pub decreases-loop-vars : goal.decreases-loop-vars
decreases-loop-vars l = l.left
