use borrow.Author.Rules.{rules}
use mathlib.Core.Path.{sym, ◌∙◌}
use borrow.Author.Tests.{not-true, not-false}
use Rattle.pattern.specs.Table.{env}
use Rattle.rule.specs.Places.{rule_of}
use Rattle.findings.specs.Findings.{Access}
use Rattle.asking.proofs.Laws.{match-not-owner, match_none, match-bad, match-some}
use Rattle.asking.proofs.matched.Goals as goal

pub returns-then-rule-owner : goal.returns-then-rule-owner
returns-then-rule-owner c =
    let vs = env c.args.text.now c.args.head.now c.args.variables in
    let q : Access = record { path = c.args.path.now; owner = c.args.owner } in
    match-not-owner c.args.text.now vs q (rule_of c.args.text.now c.args.rule) c.if-rule-owner.true

pub returns-then-not-m : goal.returns-then-not-m
returns-then-not-m c =
    let vs = env c.args.text.now c.args.head.now c.args.variables in
    let q : Access = record { path = c.args.path.now; owner = c.args.owner } in
    match_none c.args.text.now vs q (rule_of c.args.text.now c.args.rule) c.match_pattern-m.ensures (not-true _ c.if-not-m.true)

pub returns-then-not-is_good_end : goal.returns-then-not-is_good_end
returns-then-not-is_good_end c =
    let vs = env c.args.text.now c.args.head.now c.args.variables in
    let q : Access = record { path = c.args.path.now; owner = c.args.owner } in
    match-bad c.args.text.now vs q (rule_of c.args.text.now c.args.rule) (sym c.is_good_end.ensures ∙ c.if-not-is_good_end.true)

pub returns : goal.returns
returns c =
    let vs = env c.args.text.now c.args.head.now c.args.variables in
    let q : Access = record { path = c.args.path.now; owner = c.args.owner } in
    match-some c.args.text.now vs q (rule_of c.args.text.now c.args.rule) c.match_pattern-m.ensures c.if-rule-owner.false (not-false _ c.if-not-m.false) (sym c.is_good_end.ensures ∙ c.if-not-is_good_end.false)
