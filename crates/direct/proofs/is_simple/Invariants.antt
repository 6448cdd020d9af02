use mathlib.Core.Path.{◌≡◌}
use mathlib.Core.Bool.{false}
use lib.ListN.{drop}
use Rattle.direct.specs.Direct.{simple}
use Rattle.direct.proofs.is_simple.Given as goal

abbrev pub invariant-loop-b : goal.invariant-loop-b
invariant-loop-b l = simple l.slash (drop l.b-index l.tail) ≡ simple false l.tail
