use Prim.Native.Nat.{◌+◌}
use native.Mathlib.Omega.{arith}
use mathlib.Core.Path.{◌≡◌, sym, ap, ◌∙◌}
use mathlib.Core.List.{map}
use lib.ListN.{length, drop, take}
use lib.Seq.{length-take-le}
use Rattle.pattern.specs.Table.{env}
use Rattle.findings.specs.Weighed.{Weighed, seen_findings}
use Rattle.entries.specs.Entries.{entry_of}
use Rattle.asking.specs.Steps.{concluded, gathered_in}
use Rattle.table.proofs.Laws.{asked_by, count-within, gather-end, gather-in, gather-out}
use Rattle.table.proofs.Rows.{no_record}
use Rattle.table.proofs.ask.Goals as goal

pub slice_bounds-entry-items-end : goal.slice_bounds-entry-items-end
slice_bounds-entry-items-end c =
    let m = count-within c.args.text.now c.args.head.now _ c.args.name.now c.args.path.now c.args.asked c.args.owner c.begin-query.result c.begin-query.ensures in
    let l : length (take c.begin-query.result.count c.args.table.now) ≡ c.begin-query.result.count = length-take-le _ _ m in
    omega arith

pub loop-entry-init : goal.loop-entry-init
loop-entry-init c = rw (c.no_findings-found.ensures c.args.text.now)

pub loop-entry-preserved-then-is_out : goal.loop-entry-preserved-then-is_out
loop-entry-preserved-then-is_out c =
    let r = c.begin-query.result in
    sym (gather-out c.args.text.now (env c.args.text.now c.args.head.now r.variables) (record { path = c.args.path.now; owner = r.owner }) r.words r.profile (take r.count c.args.table.now) c.loop-entry.entry-index _ (seen_findings c.args.text.now c.loop-entry.found) (omega arith)
    (sym (c.is_out.ensures c.args.text.now) ∙ c.if-is_out.true))
    ∙ c.loop-entry.invariant

pub loop-entry-preserved : goal.loop-entry-preserved
loop-entry-preserved c =
    let r = c.begin-query.result in
    ap (λ (w : Weighed). gathered_in c.args.text.now (env c.args.text.now c.args.head.now r.variables) (record { path = c.args.path.now; owner = r.owner }) r.words r.profile (map (entry_of c.args.text.now) (drop (c.loop-entry.entry-index + 1) (take r.count c.args.table.now))) w) c.weigh-found.ensures
    ∙ sym (gather-in c.args.text.now (env c.args.text.now c.args.head.now r.variables) (record { path = c.args.path.now; owner = r.owner }) r.words r.profile (take r.count c.args.table.now) c.loop-entry.entry-index _ (seen_findings c.args.text.now c.loop-entry.found) (omega arith)
    (sym (c.is_out.ensures c.args.text.now) ∙ c.if-is_out.false))
    ∙ c.loop-entry.invariant

pub returns : goal.returns
returns c =
    let r = c.begin-query.result in
    c.conclude.ensures
    ∙ ap (concluded r) (sym (gather-end c.args.text.now (env c.args.text.now c.args.head.now r.variables) (record { path = c.args.path.now; owner = r.owner }) r.words r.profile (take r.count c.args.table.now) c.loop-entry.entry-index no_record (seen_findings c.args.text.now c.loop-entry.found) (omega arith))
    ∙ c.loop-entry.invariant)
    ∙ asked_by c.args.text.now c.args.head.now c.args.table.now c.args.name.now c.args.path.now c.args.asked c.args.owner r c.begin-query.ensures
