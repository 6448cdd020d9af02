use Prim.Native.Nat.{◌-◌}
use mathlib.Core.Path.{◌≡◌}
use Rattle.faults.specs.Sized.{fault_by}
use Rattle.rule.specs.Rules.{rules_at}
use Rattle.statement.specs.Steps.{counted}
use Rattle.statement.proofs.Laws.{counted_from}
use Rattle.body.proofs.rules_at.Given as goal

abbrev pub invariant-loop-count : goal.invariant-loop-count
invariant-loop-count l =
    counted_from l.count (rules_at (l.left - l.count) (fault_by l.text l.vars l.n l.sizes) l.text l.place.0)
    ≡ counted (rules_at l.left (fault_by l.text l.vars l.n l.sizes) l.text l.initial.place.0)
