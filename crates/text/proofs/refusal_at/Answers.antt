use native.Mathlib.Nat.{sub-zero}
use borrow.Author.Rules.{rules}
use mathlib.Core.Path.{◌≡◌, ap}
use native.Mathlib.Omega.{arith}
use lib.ListN.{length, take}
use Rattle.text.proofs.Laws.{after-feed, after-other, at-end, at-start}
use Rattle.text.proofs.refusal_at.Goals as goal
use Rattle.text.proofs.refusal_at.Goals.{then-b-eq10, else-b-eq10}

pub loop-b-init : goal.loop-b-init
loop-b-init c = omega (arith, (at-start c.span-before.result.now).0, (at-start c.span-before.result.now).1)

pub loop-b-preserved : goal.loop-b-preserved
loop-b-preserved c =
    elim c.if-b-eq10.branch [
      | then-b-eq10 w ↦ let e = after-feed c.span-before.result.now c.loop-b.b-index (search rules) w.if-b-eq10.true in omega (arith, e.0, e.1)
      | else-b-eq10 w ↦ let e = after-other c.span-before.result.now c.loop-b.b-index (search rules) w.if-b-eq10.false in omega (arith, e.0, e.1)
    ]

pub returns : goal.returns
returns c =
    let b : c.span-before.result.now ≡ take c.args.stop.place.0 c.args.text.now = rw sub-zero at c.span-before.ensures in
    let e = at-end c.args.text.now c.args.stop.place.0 c.loop-b.b-index (omega (arith, ap length b)) in
    rw (c.loop-b.invariant.line_so_far, c.loop-b.invariant.column_so_far, b, e.0, e.1)
