use mathlib.Core.Path.{sym}
use Rattle.scan.specs.Bytes.{span}
use Rattle.pattern.specs.Table.{env}
use Rattle.preamble.specs.Places.{seen_preamble}
use Rattle.std.proofs.lemmas.Result.{err_from_is_err_and}
use Rattle.preamble.proofs.Laws.{operator-fault, values-refused, values-none, values-some}
use Rattle.preamble.proofs.after_operator.Goals as goal

pub returns-then-fault-ne0-clause-result_after : goal.returns-then-fault-ne0-clause-result_after
unfolding seen_preamble
returns-then-fault-ne0-clause-result_after c =
    sym (operator-fault (env c.args.text.now c.args.vars.now c.args.n) c.args.text.now (span c.args.text.now c.args.start c.args.end) c.args.start c.args.sign (record { adds = c.args.adds; next = c.args.next.0 }) c.name_fault-fault.result c.name_fault-fault.ensures c.if-fault-ne0.true)

pub returns-in_err-v-clause-result_after : goal.returns-in_err-v-clause-result_after
unfolding seen_preamble
returns-in_err-v-clause-result_after c =
    let p = err_from_is_err_and c.from_residual.result c.from_residual.ensures.1 in
    rw (p.1, p.2) (sym (values-refused (env c.args.text.now c.args.vars.now c.args.n) c.args.text.now (span c.args.text.now c.args.start c.args.end) c.args.start c.args.sign (record { adds = c.args.adds; next = c.args.next.0 }) c.name_fault-fault.ensures c.if-fault-ne0.false c.open_name-o.ensures.opening c.in_err-v.field-0.0 c.in_err-v.ensures))

pub returns-then-v-clause-result_after : goal.returns-then-v-clause-result_after
unfolding seen_preamble
returns-then-v-clause-result_after c =
    sym (values-some (env c.args.text.now c.args.vars.now c.args.n) c.args.text.now (span c.args.text.now c.args.start c.args.end) c.args.start c.args.sign (record { adds = c.args.adds; next = c.args.next.0 }) c.name_fault-fault.ensures c.if-fault-ne0.false c.open_name-o.ensures.opening c.in_ok-v.ensures c.if-v.true)

pub returns-clause-result_after : goal.returns-clause-result_after
unfolding seen_preamble
returns-clause-result_after c =
    sym (values-none (env c.args.text.now c.args.vars.now c.args.n) c.args.text.now (span c.args.text.now c.args.start c.args.end) c.args.start c.args.sign (record { adds = c.args.adds; next = c.args.next.0 }) c.name_fault-fault.ensures c.if-fault-ne0.false c.open_name-o.ensures.opening c.in_ok-v.ensures c.if-v.false)
