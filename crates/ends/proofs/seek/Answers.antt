use native.Mathlib.Omega.{arith}
use mathlib.Core.Path.{◌∙◌}
use Rattle.pattern.proofs.Laws.{before_more, before-stop, before-end, part_end-more}
use Rattle.ends.proofs.seek.Goals as goal

pub loop-place-smaller : goal.loop-place-smaller
loop-place-smaller c = omega (arith, c.part_end-place.ensures, part_end-more c.args.s.now c.loop-place.place (omega arith))

pub loop-place-preserved : goal.loop-place-preserved
loop-place-preserved c = before_more c.args.c c.args.s.now c.loop-place.place c.part_end-place.result (omega arith) c.if-s-place.true c.part_end-place.ensures ∙ c.loop-place.invariant

pub returns-else-s-place : goal.returns-else-s-place
returns-else-s-place c = omega (arith, before-stop c.args.c c.args.s.now c.loop-place.place (omega arith) c.if-s-place.false)

pub returns-after-loop-place : goal.returns-after-loop-place
returns-after-loop-place c = omega (arith, before-end c.args.c c.args.s.now c.loop-place.place (omega arith))
