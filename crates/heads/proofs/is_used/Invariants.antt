use mathlib.Core.Path.{◌≡◌}
use mathlib.Core.Bool.{false}
use Rattle.scan.specs.Bytes.{same, some, span}
use Rattle.heads.specs.Places.{names_of}
use Rattle.heads.proofs.is_used.Given as goal

abbrev pub invariant-loop-i : goal.invariant-loop-i
invariant-loop-i l = some (same (span l.text l.a l.e)) (names_of l.text l.table l.i) ≡ false
