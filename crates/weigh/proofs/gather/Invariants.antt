use Prim.Native.Nat.{◌-◌}
use mathlib.Core.Path.{◌≡◌}
use Rattle.pattern.specs.Faults.{pattern_fault}
use Rattle.pattern.specs.Table.{env}
use Rattle.statement.specs.Steps.{rules_from}
use Rattle.findings.specs.Weighed.{nothing, seen_findings}
use Rattle.weigh.proofs.Laws.{gathered}
use Rattle.weigh.proofs.gather.Given as goal

abbrev pub invariant-loop : goal.invariant-loop
invariant-loop l =
    gathered l.text (env l.text l.vars l.n) l.path l.owner (rules_from (l.count - l.counter) (pattern_fault (env l.text l.vars l.n)) l.text l.place.0) (seen_findings l.text l.found)
    ≡ gathered l.text (env l.text l.vars l.n) l.path l.owner (rules_from l.count (pattern_fault (env l.text l.vars l.n)) l.text l.initial.place.0) nothing
