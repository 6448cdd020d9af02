use native.Mathlib.Omega.{arith}
use mathlib.Core.Path.{sym}
use Prim.Native.Nat.{◌+◌}
use lib.ListN.{get_or, drop, length-drop}
use Rattle.pattern.proofs.Laws.{extra-le, part_end-in, part_end-end}
use Rattle.ends.proofs.part_end.Goals as goal

pub overflow_add-result-then-at-s : goal.overflow_add-result-then-at-s
overflow_add-result-then-at-s c = omega (arith, c.part_extra.ensures, extra-le (get_or c.args.s.now c.args.at 0) (drop (c.args.at + 1) c.args.s.now), length-drop (c.args.at + 1) c.args.s.now)

pub returns-then-at-s : goal.returns-then-at-s
returns-then-at-s c = omega (arith, c.part_extra.ensures, part_end-in c.args.s.now c.args.at c.if-at-s.true)

pub returns : goal.returns
returns c = sym (part_end-end c.args.s.now c.args.at c.if-at-s.false)
