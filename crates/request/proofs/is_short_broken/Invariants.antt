use mathlib.Core.Path.{◌≡◌}
use mathlib.Core.Bool.{◌||◌}
use lib.ListN.{drop}
use Rattle.scan.specs.Bytes.{holds}
use Rattle.blanks.specs.Blanks.{nul}
use Rattle.request.specs.Requests.{doubled}
use Rattle.request.proofs.Laws.{broken_after}
use Rattle.request.proofs.is_short_broken.Given as goal

abbrev pub invariant-loop-b : goal.invariant-loop-b
invariant-loop-b l = (l.broken || broken_after l.slash (drop l.b-index l.path)) ≡ (holds nul l.path || doubled l.path)
