use native.Mathlib.Omega.{arith}
use mathlib.Core.Path.{sym, ap₂, ◌∙◌}
use Rattle.scan.specs.Bytes.{same, span}
use Rattle.pattern.proofs.Laws.{number-hit, number-miss, number-end}
use Rattle.variables.proofs.named.Goals as goal

pub returns-then-same_bytes : goal.returns-then-same_bytes
returns-then-same_bytes c = omega arith ∙ sym (number-hit c.args.text.now c.args.vars.now (span c.args.text.now c.args.start c.args.end) c.loop-i.i (omega arith) (sym (c.same_bytes.ensures ∙ ap₂ same (c.span.ensures ∙ ap₂ (span c.args.text.now) c.cell.ensures c.cell-in-loop-i.ensures) c.span-name.ensures) ∙ c.if-same_bytes.true)) ∙ c.loop-i.invariant

pub loop-i-preserved : goal.loop-i-preserved
loop-i-preserved c = sym (number-miss c.args.text.now c.args.vars.now (span c.args.text.now c.args.start c.args.end) c.loop-i.i (omega arith) (sym (c.same_bytes.ensures ∙ ap₂ same (c.span.ensures ∙ ap₂ (span c.args.text.now) c.cell.ensures c.cell-in-loop-i.ensures) c.span-name.ensures) ∙ c.if-same_bytes.false)) ∙ c.loop-i.invariant

pub returns : goal.returns
returns c = sym (number-end c.args.text.now c.args.vars.now (span c.args.text.now c.args.start c.args.end) c.loop-i.i (omega arith)) ∙ c.loop-i.invariant
