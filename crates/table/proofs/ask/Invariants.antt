-- The findings so far: what is still to come makes of them what all the records make of nothing.
use mathlib.Core.List.{map}
use mathlib.Core.Path.{◌≡◌}
use lib.ListN.{drop, take}
use Rattle.pattern.specs.Table.{env}
use Rattle.findings.specs.Weighed.{nothing, seen_findings}
use Rattle.entries.specs.Entries.{entry_of}
use Rattle.asking.specs.Steps.{gathered_in}
use Rattle.table.proofs.ask.Given as goal

abbrev pub invariant-loop-entry : goal.invariant-loop-entry
invariant-loop-entry l =
    gathered_in l.text (env l.text l.head l.query.variables) (record { path = l.path; owner = l.query.owner }) l.query.words l.query.profile (map (entry_of l.text) (drop l.entry-index (take l.query.count l.table))) (seen_findings l.text l.found)
    ≡ gathered_in l.text (env l.text l.head l.query.variables) (record { path = l.path; owner = l.query.owner }) l.query.words l.query.profile (map (entry_of l.text) (take l.query.count l.table)) nothing
