use mathlib.Core.Path.{sym, ◌∙◌}
use native.Mathlib.Omega.{arith}
use lib.ListN.{length-take}
use lib.Seq.{length-take-le}
use Rattle.matcher.proofs.Back.{back-le, back-left, back-dead, back-only}
use Rattle.matcher.proofs.walk_back.Goals as goal

pub overflow_sub-k : goal.overflow_sub-k
overflow_sub-k c = omega (arith, c.taken_back-n.ensures, back-le c.args.text.now c.args.codes.now c.args.path.now)

pub overflow_sub-m : goal.overflow_sub-m
overflow_sub-m c = omega (arith, c.taken_back-n.ensures, back-le c.args.text.now c.args.codes.now c.args.path.now)

pub returns-then-not-repeats : goal.returns-then-not-repeats
returns-then-not-repeats c = sym (back-dead c.args.text.now c.args.codes.now c.args.path.now c.taken_back-n.result c.taken_back-n.ensures (omega arith) (sym (c.repeats.ensures c.args.text.now) ∙ c.if-not-repeats.true))

pub slice_bounds-takes_all-end : goal.slice_bounds-takes_all-end
slice_bounds-takes_all-end c = sym (length-take-le _ _ (omega arith))

pub returns-then-k-eq1 : goal.returns-then-k-eq1
returns-then-k-eq1 c =
    c.takes_all.ensures c.args.text.now (sym (c.repeats.ensures c.args.text.now) ∙ c.if-not-repeats.false)
    ∙ sym (back-only c.args.text.now c.args.codes.now c.args.path.now c.taken_back-n.result c.taken_back-n.ensures c.if-k-eq1.true)

pub slice_bounds-walk_places-end : goal.slice_bounds-walk_places-end
slice_bounds-walk_places-end c = sym (length-take-le _ _ (omega arith))

pub slice_bounds-walk_places-end-2 : goal.slice_bounds-walk_places-end-2
slice_bounds-walk_places-end-2 c = sym (length-take-le _ _ (omega arith))

pub walk_places-requires : goal.walk_places-requires
walk_places-requires c = simp length-take (omega arith)

pub returns : goal.returns
returns c = c.walk_places.ensures ∙ sym (back-left c.args.text.now c.args.codes.now c.args.path.now c.taken_back-n.result c.taken_back-n.ensures)
