use native.Mathlib.Omega.{arith}
use Prim.Native.Nat.{ℕ, suc, ◌+◌, ◌-◌}
use mathlib.Core.Path.{◌≡◌, sym, ap, ◌∙◌}
use mathlib.Core.List.{List}
use Rattle.pattern.specs.Faults.{pattern_fault}
use Rattle.pattern.specs.Table.{env}
use Rattle.rule.specs.Rules.{rule_at}
use Rattle.statement.specs.Steps.{rules_from}
use Rattle.faults.proofs.Laws.{faults-known}
use Rattle.findings.specs.Weighed.{nothing, seen_findings}
use Rattle.text.specs.Places.{span_of}
use Rattle.rule.specs.Places.{rule_of}
use Rattle.glob.specs.declared.Matched.{Matched}
use Rattle.glob.proofs.Laws.{matched-known}
use Rattle.weigh.specs.Weigh.{weighed_by}
use Rattle.weigh.proofs.Laws.{gathered, gathered-rules, gather-more, gather-close, gather-refused, gather-end, read-good}
use Rattle.weigh.proofs.gather.Goals as goal

pub loop-preserved : goal.loop-preserved
loop-preserved c =
    let vs = env c.args.text.now c.args.vars.now c.args.n in
    let w = seen_findings c.args.text.now c.loop.found in
    let step = (rw c.in-Rule.is at c.in-Ok.ensures.result_value) ∙ ap (λ (f : List ℕ → ℕ). rule_at f c.args.text.now c.loop.place.0) (faults-known c.requires.known) in
    let e : c.args.count - c.loop.counter ≡ suc (c.args.count - (c.loop.counter + 1)) = omega arith in
    rw (c.weigh-found.ensures ∙ ap (λ (m : Matched). weighed_by c.args.owner m (rule_of c.args.text.now c.in-Rule.rule) w) (matched-known c.requires.known (span_of c.args.text.now c.in-Rule.rule.pattern) c.args.path.now (read-good vs c.args.text.now c.loop.place.0 c.in-Rule.rule c.in-Rule.next step)))
    (sym (gather-more vs c.args.text.now c.args.path.now c.args.owner c.loop.place.0 w (c.args.count - (c.loop.counter + 1)) c.in-Rule.rule c.in-Rule.next step)
    ∙ (rw e at c.loop.invariant))

pub returns-in-Close : goal.returns-in-Close
returns-in-Close c =
    let vs = env c.args.text.now c.args.vars.now c.args.n in
    let w = seen_findings c.args.text.now c.loop.found in
    let e : c.args.count - c.loop.counter ≡ suc (c.args.count - (c.loop.counter + 1)) = omega arith in
    sym (gather-close vs c.args.text.now c.args.path.now c.args.owner c.loop.place.0 w (c.args.count - (c.loop.counter + 1)) ((rw c.in-Close.is at c.in-Ok.ensures.result_value) ∙ ap (λ (f : List ℕ → ℕ). rule_at f c.args.text.now c.loop.place.0) (faults-known c.requires.known)))
    ∙ (rw e at c.loop.invariant)
    ∙ gathered-rules c.args.text.now vs (record { path = c.args.path.now; owner = c.args.owner }) c.requires.fits c.args.count c.args.at.0

pub returns-in-Err : goal.returns-in-Err
returns-in-Err c =
    let vs = env c.args.text.now c.args.vars.now c.args.n in
    let w = seen_findings c.args.text.now c.loop.found in
    let e : c.args.count - c.loop.counter ≡ suc (c.args.count - (c.loop.counter + 1)) = omega arith in
    sym (gather-refused vs c.args.text.now c.args.path.now c.args.owner c.loop.place.0 w (c.args.count - (c.loop.counter + 1)) (c.in-Err.ensures.result_value ∙ ap (λ (f : List ℕ → ℕ). rule_at f c.args.text.now c.loop.place.0) (faults-known c.requires.known)))
    ∙ (rw e at c.loop.invariant)
    ∙ gathered-rules c.args.text.now vs (record { path = c.args.path.now; owner = c.args.owner }) c.requires.fits c.args.count c.args.at.0

pub returns : goal.returns
returns c =
    let vs = env c.args.text.now c.args.vars.now c.args.n in
    let w = seen_findings c.args.text.now c.loop.found in
    let e : c.args.count - c.loop.counter ≡ 0 = omega arith in
    sym (gather-end vs c.args.text.now c.args.path.now c.args.owner c.loop.place.0 w)
    ∙ (rw e at c.loop.invariant)
    ∙ gathered-rules c.args.text.now vs (record { path = c.args.path.now; owner = c.args.owner }) c.requires.fits c.args.count c.args.at.0
