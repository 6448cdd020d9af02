use lib.ListN.{length, set}
use Rattle.pattern.specs.Codes.{decode}
use Rattle.matcher.proofs.Steps.{Stepping}
use Rattle.matcher.proofs.advance.Given as goal

abbrev pub invariant-loop-i : goal.invariant-loop-i
invariant-loop-i l = Stepping (length l.initial.marks) (decode l.text l.code) l.path (set l.initial.marks 0 l.initial.before) l.marks l.many l.before l.alive l.i
