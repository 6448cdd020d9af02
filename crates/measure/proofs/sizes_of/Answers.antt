use native.Mathlib.Omega.{arith}
use mathlib.Core.Path.{ap, ◌∙◌}
use lib.ListN.{length}
use Rattle.sizes.proofs.Table.{length-put, known-zero, known_more}
use Rattle.measure.proofs.sizes_of.Goals as goal

pub loop-w-init : goal.loop-w-init
loop-w-init c = (ap length c.put_size.ensures ∙ length-put _ 0 _, rw c.put_size.ensures (known-zero c.args.text.now c.args.vars.now _ c.no_size.result c.no_size.ensures (omega arith)))

pub loop-w-preserved : goal.loop-w-preserved
loop-w-preserved c = (ap length c.put_size-in-loop-w.ensures ∙ length-put _ _ _ ∙ c.loop-w.invariant.0, rw c.put_size-in-loop-w.ensures (known_more c.args.text.now c.args.vars.now c.loop-w.table c.loop-w.w c.variable_size-size.result (omega arith) c.loop-w.invariant.0 c.loop-w.invariant.1 c.variable_size-size.ensures))
