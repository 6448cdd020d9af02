use borrow.Author.Rules.{rules}
use native.Mathlib.Omega.{arith}
use mathlib.Core.Path.{sym, ◌∙◌}
use lib.ListN.{length-set}
use Rattle.pattern.specs.Codes.{decode}
use Rattle.matcher.proofs.Steps.{stepping-first, stepping-turn, stepping-done}
use Rattle.matcher.proofs.advance.Goals as goal

pub loop-i-init : goal.loop-i-init
loop-i-init c = stepping-first (decode c.args.text.now c.args.code) c.args.path.now c.args.marks.now c.mark-alive.result (sym (length-set c.args.marks.now 0 c.mark-alive.result)) (omega (arith, length-set c.args.marks.now 0 c.mark-alive.result)) (c.repeats-many.ensures c.args.text.now) c.mark-alive.ensures

pub bounds-marks-i : goal.bounds-marks-i
bounds-marks-i c = omega (arith, c.loop-i.invariant.room, length-set c.args.marks.now 0 c.mark-alive.result)

pub bounds-marks-i-in-loop-i : goal.bounds-marks-i-in-loop-i
bounds-marks-i-in-loop-i c = omega (arith, c.loop-i.invariant.room, length-set c.args.marks.now 0 c.mark-alive.result)

pub bounds-marks-i-in-loop-i-2 : goal.bounds-marks-i-in-loop-i-2
bounds-marks-i-in-loop-i-2 c = omega (arith, c.loop-i.invariant.room, length-set c.args.marks.now 0 c.mark-alive.result)

pub loop-i-preserved : goal.loop-i-preserved
loop-i-preserved c = stepping-turn (decode c.args.text.now c.args.code) c.args.path.now c.loop-i.invariant (omega (arith, length-set c.args.marks.now 0 c.mark-alive.result)) (search rules) c.takes-ok.result c.mark-m.result c.takes-ok.ensures c.mark-m.ensures

pub shape_of-marks : goal.shape_of-marks
shape_of-marks c = c.loop-i.invariant.room ∙ length-set c.args.marks.now 0 c.mark-alive.result

pub returns : goal.returns
returns c =
    let done = stepping-done (decode c.args.text.now c.args.code) c.args.path.now c.args.marks.now c.mark-alive.result c.loop-i.invariant (omega arith) in
    record { by_index = done.0; value = done.1 }
