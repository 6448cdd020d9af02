use Prim.Native.Nat.{ℕ}
use Rattle.asking.specs.Steps.{query_of, weighed_entry}
use Rattle.entries.specs.Entries.{entry_of}
use Rattle.entries.specs.declared.Record.{Record}
use Rattle.findings.specs.Weighed.{nothing, seen_findings}
use Rattle.flat.proofs.Walk.{flat-asked, onwards, onwards-end, onwards-first, onwards-in, onwards-out, query-room}
use Rattle.pattern.specs.Table.{env}
use borrow.Author.Rules.{rules}
use mathlib.Core.Path.{◌≡◌, sym, ap, ◌∙◌}
use native.Mathlib.Omega.{arith}
use Rattle.flat.proofs.ask_brief.Goals as goal

pub loop-k-init : goal.loop-k-init
loop-k-init c = rw (c.no_findings-found.ensures c.args.text.now)

pub overflow_mul-at : goal.overflow_mul-at
overflow_mul-at c = omega (arith, query-room c.args.text.now c.args.memory.now c.args.name.now c.args.path.now c.args.asked c.args.owner c.begin-query.result c.room_in.result c.begin-query.ensures c.room_in.ensures c.loop-k.k (search rules))

pub overflow_add-at : goal.overflow_add-at
overflow_add-at c = omega (arith, query-room c.args.text.now c.args.memory.now c.args.name.now c.args.path.now c.args.asked c.args.owner c.begin-query.result c.room_in.result c.begin-query.ensures c.room_in.ensures c.loop-k.k (search rules))

pub is_out_at-requires : goal.is_out_at-requires
is_out_at-requires c = omega (arith, query-room c.args.text.now c.args.memory.now c.args.name.now c.args.path.now c.args.asked c.args.owner c.begin-query.result c.room_in.result c.begin-query.ensures c.room_in.ensures c.loop-k.k (search rules))

pub loop-k-preserved-then-is_out_at : goal.loop-k-preserved-then-is_out_at
loop-k-preserved-then-is_out_at c =
    let e = sym (c.is_out_at.ensures c.args.text.now) ∙ c.if-is_out_at.true in
    onwards-out c.args.text.now (env c.args.text.now c.args.memory.now c.begin-query.result.variables) (record { path = c.args.path.now; owner = c.begin-query.result.owner }) c.begin-query.result.words c.begin-query.result.profile c.args.memory.now c.begin-query.result.count c.loop-k.k (seen_findings c.args.text.now c.loop-k.found) (omega arith) e ∙ c.loop-k.invariant

pub load-requires : goal.load-requires
load-requires c = omega (arith, query-room c.args.text.now c.args.memory.now c.args.name.now c.args.path.now c.args.asked c.args.owner c.begin-query.result c.room_in.result c.begin-query.ensures c.room_in.ensures c.loop-k.k (search rules))

pub loop-k-preserved : goal.loop-k-preserved
loop-k-preserved c =
    let e = sym (c.is_out_at.ensures c.args.text.now) ∙ c.if-is_out_at.false in
    let w = seen_findings c.args.text.now c.loop-k.found in
    let g = c.weigh-found.ensures ∙ ap (λ (x : Record). weighed_entry c.args.text.now (env c.args.text.now c.args.memory.now c.begin-query.result.variables) (record { path = c.args.path.now; owner = c.begin-query.result.owner }) (entry_of c.args.text.now x) w) c.load.ensures in
    onwards-in c.args.text.now (env c.args.text.now c.args.memory.now c.begin-query.result.variables) (record { path = c.args.path.now; owner = c.begin-query.result.owner }) c.begin-query.result.words c.begin-query.result.profile c.args.memory.now c.begin-query.result.count c.loop-k.k w (seen_findings c.args.text.now c.weigh-found.result) (omega arith) e g ∙ c.loop-k.invariant

pub returns : goal.returns
returns c =
    let w = seen_findings c.args.text.now c.loop-k.found in
    let e : c.begin-query.result.count ≡ c.loop-k.k = omega arith in
    let all = onwards c.args.text.now (env c.args.text.now c.args.memory.now c.begin-query.result.variables) (record { path = c.args.path.now; owner = c.begin-query.result.owner }) c.begin-query.result.words c.begin-query.result.profile c.args.memory.now in
    c.conclude_brief.ensures c.args.text.now
    ∙ flat-asked c.args.text.now c.args.memory.now c.args.name.now c.args.path.now c.args.asked c.args.owner c.begin-query.result w
    (c.begin-query.ensures ∙ ap (λ (j : ℕ). query_of c.args.text.now c.args.memory.now j c.args.name.now c.args.path.now c.args.asked c.args.owner) c.room_in.ensures)
    (sym (onwards-end c.args.text.now (env c.args.text.now c.args.memory.now c.begin-query.result.variables) (record { path = c.args.path.now; owner = c.begin-query.result.owner }) c.begin-query.result.words c.begin-query.result.profile c.args.memory.now c.begin-query.result.count w)
    ∙ ap (λ (j : ℕ). all c.begin-query.result.count j w) e ∙ c.loop-k.invariant
    ∙ onwards-first c.args.text.now (env c.args.text.now c.args.memory.now c.begin-query.result.variables) (record { path = c.args.path.now; owner = c.begin-query.result.owner }) c.begin-query.result.words c.begin-query.result.profile c.args.memory.now c.begin-query.result.count nothing)
