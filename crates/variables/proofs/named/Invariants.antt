use mathlib.Core.Path.{◌≡◌}
use Prim.Native.Nat.{min}
use Rattle.scan.specs.Bytes.{span}
use Rattle.pattern.specs.Table.{number_of}
use Rattle.variables.proofs.named.Given as goal

abbrev pub invariant-loop-i : goal.invariant-loop-i
invariant-loop-i l = number_of l.text l.vars l.i (span l.text l.start l.end) ≡ number_of l.text l.vars (min 32 l.n) (span l.text l.start l.end)
