use mathlib.Core.Path.{◌∙◌}
use Rattle.rule.specs.Places.{rule_of}
use Rattle.findings.specs.Weighed.{seen_findings}
use Rattle.weigh.proofs.Laws.{weigh-not-owner, weigh-unmatched, weigh-denied, weigh-allowed}
use Rattle.weigh.proofs.weigh.Goals as goal

pub returns-then-rule-owner : goal.returns-then-rule-owner
returns-then-rule-owner c =
    let r = rule_of c.args.text.now c.args.rule in
    let w = seen_findings c.args.text.now c.args.found in
    weigh-not-owner c.args.owner r w _ c.if-rule-owner.true

pub returns-then-rule : goal.returns-then-rule
returns-then-rule c =
    let r = rule_of c.args.text.now c.args.rule in
    let w = seen_findings c.args.text.now c.args.found in
    c.deny.ensures ∙ weigh-denied c.args.owner r w c.match_good-m.ensures c.if-rule-owner.false c.if-m.true c.if-rule.true

pub returns-then-m : goal.returns-then-m
returns-then-m c =
    let r = rule_of c.args.text.now c.args.rule in
    let w = seen_findings c.args.text.now c.args.found in
    c.allow.ensures ∙ weigh-allowed c.args.owner r w c.match_good-m.ensures c.if-rule-owner.false c.if-m.true c.if-rule.false

pub returns : goal.returns
returns c =
    let r = rule_of c.args.text.now c.args.rule in
    let w = seen_findings c.args.text.now c.args.found in
    weigh-unmatched c.args.owner r w c.match_good-m.ensures c.if-rule-owner.false c.if-m.false
