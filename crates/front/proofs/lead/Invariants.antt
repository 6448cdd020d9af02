use mathlib.Core.Path.{◌≡◌}
use Rattle.scan.specs.Bytes.{span}
use Rattle.front.specs.Front.{lead_of}
use Rattle.front.proofs.Turns.{lead_from}
use Rattle.front.proofs.lead.Given as goal

abbrev pub invariant-loop-i : goal.invariant-loop-i
invariant-loop-i l = lead_from l.i l.after l.pattern l.path ≡ lead_of l.slash (span l.text l.a l.e) l.path
