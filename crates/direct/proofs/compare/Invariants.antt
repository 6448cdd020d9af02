use mathlib.Core.Path.{◌≡◌}
use lib.ListN.{length}
use Rattle.direct.specs.Direct.{outcome_of}
use Rattle.direct.proofs.compare.Given as goal

abbrev pub invariant-loop-bytes : goal.invariant-loop-bytes
invariant-loop-bytes l = outcome_of l.after l.left l.bytes ≡ outcome_of l.fn.slash l.fn.s l.fn.path

abbrev pub decreases-loop-bytes : goal.decreases-loop-bytes
decreases-loop-bytes l = length l.bytes
