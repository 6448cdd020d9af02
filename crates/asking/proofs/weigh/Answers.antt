use borrow.Author.Rules.{rules}
use mathlib.Core.Path.{◌∙◌}
use borrow.Author.Tests.{not-true, not-false}
use Rattle.pattern.specs.Table.{env}
use Rattle.findings.specs.Findings.{Access}
use Rattle.findings.specs.Weighed.{seen_findings}
use Rattle.entries.specs.Entries.{entry_of}
use Rattle.asking.proofs.Laws.{entry-unmatched, entry-denied, entry-allowed}
use Rattle.asking.proofs.weigh.Goals as goal

pub returns-then-not-m : goal.returns-then-not-m
returns-then-not-m c =
    let vs = env c.args.text.now c.args.head.now c.args.query.variables in
    let q : Access = record { path = c.args.path.now; owner = c.args.query.owner } in
    entry-unmatched c.args.text.now vs q (entry_of c.args.text.now c.args.entry) c.matched-m.ensures (seen_findings c.args.text.now c.args.found) (not-true _ c.if-not-m.true)

pub returns-then-rule : goal.returns-then-rule
returns-then-rule c =
    let vs = env c.args.text.now c.args.head.now c.args.query.variables in
    let q : Access = record { path = c.args.path.now; owner = c.args.query.owner } in
    c.deny.ensures ∙ entry-denied c.args.text.now vs q (entry_of c.args.text.now c.args.entry) c.matched-m.ensures (seen_findings c.args.text.now c.args.found) (not-false _ c.if-not-m.false) c.if-rule.true

pub returns : goal.returns
returns c =
    let vs = env c.args.text.now c.args.head.now c.args.query.variables in
    let q : Access = record { path = c.args.path.now; owner = c.args.query.owner } in
    c.allow.ensures ∙ entry-allowed c.args.text.now vs q (entry_of c.args.text.now c.args.entry) c.matched-m.ensures (seen_findings c.args.text.now c.args.found) (not-false _ c.if-not-m.false) c.if-rule.false
