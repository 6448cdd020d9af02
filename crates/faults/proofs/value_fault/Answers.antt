use Rattle.scan.specs.Bytes.{span}
use Rattle.pattern.specs.Table.{env}
use Rattle.faults.proofs.Laws.{value_none, value-too-long, value-good, value-unset, value-bad}
use Rattle.faults.proofs.value_fault.Goals as goal

pub returns-then-s-eq0 : goal.returns-then-s-eq0
returns-then-s-eq0 c = value_none (env c.args.text.now c.args.vars.now c.args.n) (span c.args.text.now c.args.a c.args.e) c.span-s.result.now c.span-s.ensures c.if-s-eq0.true

pub returns-then-s-gt1024 : goal.returns-then-s-gt1024
returns-then-s-gt1024 c = value-too-long (env c.args.text.now c.args.vars.now c.args.n) (span c.args.text.now c.args.a c.args.e) c.span-s.result.now c.span-s.ensures c.if-s-eq0.false c.if-s-gt1024.true

pub returns-then-value_names : goal.returns-then-value_names
returns-then-value_names c = value-good (env c.args.text.now c.args.vars.now c.args.n) (span c.args.text.now c.args.a c.args.e) c.span-s.result.now c.span-s.ensures c.if-s-eq0.false c.if-s-gt1024.false c.if-value_form.true c.value_form.ensures c.if-value_names.true c.value_names.ensures

pub returns-then-value_form : goal.returns-then-value_form
returns-then-value_form c = value-unset (env c.args.text.now c.args.vars.now c.args.n) (span c.args.text.now c.args.a c.args.e) c.span-s.result.now c.span-s.ensures c.if-s-eq0.false c.if-s-gt1024.false c.if-value_form.true c.value_form.ensures c.if-value_names.false c.value_names.ensures

pub returns : goal.returns
returns c = value-bad (env c.args.text.now c.args.vars.now c.args.n) (span c.args.text.now c.args.a c.args.e) c.span-s.result.now c.span-s.ensures c.if-s-eq0.false c.if-s-gt1024.false c.if-value_form.false c.value_form.ensures
