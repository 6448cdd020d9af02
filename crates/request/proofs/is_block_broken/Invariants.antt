use mathlib.Core.Path.{◌≡◌}
use lib.ListN.{drop}
use Rattle.request.proofs.Laws.{broken_in}
use Rattle.request.proofs.is_block_broken.Given as goal

abbrev pub invariant-loop-i : goal.invariant-loop-i
invariant-loop-i l = l.broken ≡ broken_in l.i (drop l.at l.path)
