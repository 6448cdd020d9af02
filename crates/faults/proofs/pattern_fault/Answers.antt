use Rattle.scan.specs.Bytes.{span}
use Rattle.faults.proofs.Laws.{pattern-too-long, pattern-sized, pattern-unset, pattern-bad}
use Rattle.faults.proofs.pattern_fault.Goals as goal

pub returns-then-s-gt1024 : goal.returns-then-s-gt1024
returns-then-s-gt1024 c = pattern-too-long c.args.text.now c.args.vars.now c.args.n c.args.sizes.now (span c.args.text.now c.args.a c.args.e) c.span-s.result.now c.span-s.ensures c.if-s-gt1024.true

pub returns-then-pattern_names : goal.returns-then-pattern_names
returns-then-pattern_names c =
    pattern-sized c.args.text.now c.args.vars.now c.args.n c.args.sizes.now (span c.args.text.now c.args.a c.args.e) c.span-s.result.now c.span-s.ensures c.if-s-gt1024.false c.if-pattern_form.true c.pattern_form.ensures c.if-pattern_names.true c.pattern_names.ensures
    c.pattern_size.ensures c.size_fault.ensures

pub returns-then-pattern_form : goal.returns-then-pattern_form
returns-then-pattern_form c = pattern-unset c.args.text.now c.args.vars.now c.args.n c.args.sizes.now (span c.args.text.now c.args.a c.args.e) c.span-s.result.now c.span-s.ensures c.if-s-gt1024.false c.if-pattern_form.true c.pattern_form.ensures c.if-pattern_names.false c.pattern_names.ensures

pub returns : goal.returns
returns c = pattern-bad c.args.text.now c.args.vars.now c.args.n c.args.sizes.now (span c.args.text.now c.args.a c.args.e) c.span-s.result.now c.span-s.ensures c.if-s-gt1024.false c.if-pattern_form.false c.pattern_form.ensures
