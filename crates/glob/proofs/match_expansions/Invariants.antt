use Rattle.scan.specs.Bytes.{span}
use Rattle.sizes.specs.Numbered.{pattern_by}
use Rattle.glob.proofs.Laws.{Tried}
use Rattle.glob.proofs.match_expansions.Given as goal

abbrev pub invariant-loop-d : goal.invariant-loop-d
invariant-loop-d l = Tried l.slash (pattern_by l.text l.vars l.n l.sizes (span l.text l.a l.e)) l.path l.d l.some
