use Rattle.findings.specs.Weighed.{nothing, seen_findings}
use Rattle.flat.proofs.Walk.{onwards}
use Rattle.pattern.specs.Table.{env}
use mathlib.Core.Path.{◌≡◌}
use Rattle.flat.proofs.ask_brief.Given as goal

abbrev pub invariant-loop-k : goal.invariant-loop-k
invariant-loop-k l =
    onwards l.text (env l.text l.memory l.query.variables) (record { path = l.path; owner = l.query.owner }) l.words l.profile l.memory l.n l.k (seen_findings l.text l.found)
    ≡ onwards l.text (env l.text l.memory l.query.variables) (record { path = l.path; owner = l.query.owner }) l.words l.profile l.memory l.n 0 nothing
