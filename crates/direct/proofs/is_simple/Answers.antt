use mathlib.Core.Path.{sym, ◌∙◌}
use native.Mathlib.Omega.{arith}
use Rattle.direct.proofs.Turns.{simple-stop, simple-next, simple-end}
use Rattle.direct.proofs.is_simple.Goals as goal

pub returns-then-not-plain-b : goal.returns-then-not-plain-b
returns-then-not-plain-b c = simple-stop c.args.tail.now c.loop-b.b-index c.loop-b.slash (omega arith) c.plain.ensures c.if-not-plain-b.true ∙ c.loop-b.invariant

pub loop-b-preserved : goal.loop-b-preserved
loop-b-preserved c = simple-next c.args.tail.now c.loop-b.b-index c.loop-b.slash (omega arith) c.plain.ensures c.if-not-plain-b.false ∙ c.loop-b.invariant

pub returns : goal.returns
returns c = sym (simple-end c.args.tail.now c.loop-b.b-index c.loop-b.slash (omega arith)) ∙ c.loop-b.invariant
