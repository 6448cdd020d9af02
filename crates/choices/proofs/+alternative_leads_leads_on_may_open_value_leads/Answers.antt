use borrow.Author.Rules.{rules}
use native.Mathlib.Omega.{arith}
use mathlib.Core.Path.{refl, ap₂, ◌∙◌}
use Prim.Native.Nat.{◌*◌, min}
use Rattle.scan.specs.Bytes.{span}
use Rattle.scan.proofs.Laws.{length-span}
use Rattle.pattern.proofs.Laws.{number-le}
use Rattle.choices.proofs.Turns.{led-none, leads-unfit, leads-short, leads-whole, led-within, leads-next, value-here, value_there, value-nowhere, alternative-here, alternative-there, alternative-nowhere, name-unset, name_set_lem, opens-zero, opens-piece, opens-bad, opens-use, opens-among}
use Rattle.choices.proofs.+alternative_leads_leads_on_may_open_value_leads.Goals as goal

pub alternative_leads-returns-then-leads_on : goal.alternative_leads-returns-then-leads_on
alternative_leads-returns-then-leads_on t c = alternative-here _ c.args.body.now _ _ c.seek-j.ensures c.loop-n.invariant.1 c.span.ensures c.leads_on.ensures c.if-leads_on.true

pub alternative_leads-returns-then-body-j : goal.alternative_leads-returns-then-body-j
alternative_leads-returns-then-body-j t c = alternative-nowhere _ c.args.body.now _ _ c.seek-j.ensures c.loop-n.invariant.1 c.span.ensures c.leads_on.ensures c.if-leads_on.false c.if-body-j.true

pub alternative_leads-loop-n-preserved : goal.alternative_leads-loop-n-preserved
alternative_leads-loop-n-preserved t c =
    (omega arith, alternative-there _ c.args.body.now _ _ c.seek-j.ensures c.loop-n.invariant.1 c.span.ensures c.leads_on.ensures c.if-leads_on.false c.if-body-j.false)

pub leads_on-returns-in_default : goal.leads_on-returns-in_default
leads_on-returns-in_default t c = leads-unfit _ _ _ _ c.lead.ensures c.in_default.is

pub leads_on-returns-then-k-value : goal.leads_on-returns-then-k-value
leads_on-returns-then-k-value t c = leads-short _ _ _ _ c.lead.ensures c.in-Some.is c.if-k-value.true

pub leads_on-returns-in_default-lead : goal.leads_on-returns-in_default-lead
leads_on-returns-in_default-lead t c =
    led-none _ _ _ _ c.lead-2.ensures c.in_default-lead.is
    ∙ leads-whole _ _ _ _ c.lead.ensures c.in-Some.is c.if-k-value.false c.span-left.ensures

pub leads_on-overflow_add-a : goal.leads_on-overflow_add-a
leads_on-overflow_add-a t c =
    let text = c.args.text.now in
    omega (arith, led-within _ text c.args.a c.args.e _ c.lead-2.ensures c.in-Some-lead.is, length-span text c.args.a c.args.e)

pub leads_on-returns : goal.leads_on-returns
leads_on-returns t c =
    c.may_open.ensures
    ∙ leads-next _ _ _ _ _ c.lead-2.ensures c.in-Some-lead.is _ c.span-last.ensures
    ∙ leads-whole _ _ _ _ c.lead.ensures c.in-Some.is c.if-k-value.false c.span-left.ensures

pub may_open-returns-then-depth-eq0 : goal.may_open-returns-then-depth-eq0
may_open-returns-then-depth-eq0 t c = opens-zero c.if-depth-eq0.true _ _ _ _

pub may_open-returns-then-r-eq0 : goal.may_open-returns-then-r-eq0
may_open-returns-then-r-eq0 t c =
    name-unset _ _ _ _ _ _ _ c.named-r.ensures c.if-r-eq0.true
    ∙ opens-use _ c.if-depth-eq0.false _ _ _ _ _ _ c.item_at-i.ensures c.in-Single.is c.in-Use.is refl

pub may_open-value_leads-requires : goal.may_open-value_leads-requires
may_open-value_leads-requires t c =
    let text = c.args.text.now in
    (search rules, omega (arith, c.named-r.ensures, number-le text c.args.vars.now (span text c.in-Use.start c.in-Use.end) (min 32 c.args.n)))

pub may_open-returns-in-Is : goal.may_open-returns-in-Is
may_open-returns-in-Is t c = opens-piece _ c.if-depth-eq0.false _ _ _ _ _ _ c.item_at-i.ensures c.in-Single.is c.in-Is.is

pub may_open-returns-else-r-eq0 : goal.may_open-returns-else-r-eq0
may_open-returns-else-r-eq0 t c =
    c.value_leads.ensures
    ∙ name_set_lem _ _ _ _ _ _ _ c.named-r.ensures c.if-r-eq0.false
    ∙ opens-use _ c.if-depth-eq0.false _ _ _ _ _ _ c.item_at-i.ensures c.in-Single.is c.in-Use.is c.behind-next.ensures

pub may_open-returns-in-Bad : goal.may_open-returns-in-Bad
may_open-returns-in-Bad t c = opens-bad _ c.if-depth-eq0.false _ _ _ _ _ _ c.item_at-i.ensures c.in-Single.is c.in-Bad.is

pub may_open-returns-in-Among : goal.may_open-returns-in-Among
may_open-returns-in-Among t c =
    c.alternative_leads.ensures
    ∙ opens-among _ c.if-depth-eq0.false _ _ _ _ _ _ c.item_at-i.ensures c.in-Among.is c.span-body.ensures c.behind-next-in-Among.ensures

pub value_leads-returns-then-leads_on : goal.value_leads-returns-then-leads_on
value_leads-returns-then-leads_on t c =
    value-here _ _ _ c.least-k-end.result c.loop-k.k (16 * c.args.w) c.loop-k.invariant (search rules) (c.span-value.ensures ∙ ap₂ (span c.args.text.now) c.cell-in-loop-k.ensures c.cell-in-loop-k-2.ensures) c.leads_on.ensures c.if-leads_on.true

pub value_leads-loop-k-preserved : goal.value_leads-loop-k-preserved
value_leads-loop-k-preserved t c =
    value_there _ _ _ c.least-k-end.result c.loop-k.k (16 * c.args.w) c.loop-k.invariant (search rules) (c.span-value.ensures ∙ ap₂ (span c.args.text.now) c.cell-in-loop-k.ensures c.cell-in-loop-k-2.ensures) c.leads_on.ensures c.if-leads_on.false

pub value_leads-returns : goal.value_leads-returns
value_leads-returns t c = value-nowhere _ _ _ c.least-k-end.result c.loop-k.k (16 * c.args.w) c.loop-k.invariant (search rules)
