use borrow.Author.Rules.{rules}
use native.Mathlib.Omega.{arith}
use Prim.Native.Nat.{◌≤◌, min}
use lib.ListN.{length}
use Rattle.pattern.proofs.Laws.{seek-le}
use Rattle.sizes.specs.Numbered.{name_by}
use Rattle.sizes.proofs.Loops.{span-most}
use Rattle.expand.proofs.Laws.{alternative-here, alternative-there, alternative-nowhere}
use Rattle.expand.proofs.pick_alternative.Goals as goal

pub overflow_add-end : goal.overflow_add-end
overflow_add-end c = omega (arith, span-most c.args.text.now c.args.a c.args.e c.seek-j.result (rw (← c.span-s.ensures) (omega (arith, c.seek-j.ensures, seek-le 44 c.span-s.result.now c.loop-left.i c.loop-left.invariant.0))))

pub returns-then-left-count : goal.returns-then-left-count
returns-then-left-count c =
    let names = name_by c.args.text.now c.args.vars.now c.args.sizes.now (min 32 c.args.n) in
    let j : c.seek-j.result ≤ length c.span-s.result.now = omega (arith, c.seek-j.ensures, seek-le 44 c.span-s.result.now c.loop-left.i c.loop-left.invariant.0) in
    alternative-here names c.loop-left.left c.args.text.now c.args.a c.args.e c.span-s.result.now c.span-s.ensures c.loop-left.i c.seek-j.result c.seek-j.ensures j c.loop-left.invariant.1 c.value_size-size.ensures c.if-left-count.true

pub returns-then-s-j : goal.returns-then-s-j
returns-then-s-j c =
    let names = name_by c.args.text.now c.args.vars.now c.args.sizes.now (min 32 c.args.n) in
    let j : c.seek-j.result ≤ length c.span-s.result.now = omega (arith, c.seek-j.ensures, seek-le 44 c.span-s.result.now c.loop-left.i c.loop-left.invariant.0) in
    alternative-nowhere names c.loop-left.left c.args.text.now c.args.a c.args.e c.span-s.result.now c.span-s.ensures c.loop-left.i c.seek-j.result c.seek-j.ensures j c.loop-left.invariant.1 c.value_size-size.ensures (search rules) c.if-left-count.false

pub loop-left-preserved : goal.loop-left-preserved
loop-left-preserved c =
    let names = name_by c.args.text.now c.args.vars.now c.args.sizes.now (min 32 c.args.n) in
    let j : c.seek-j.result ≤ length c.span-s.result.now = omega (arith, c.seek-j.ensures, seek-le 44 c.span-s.result.now c.loop-left.i c.loop-left.invariant.0) in
    (omega arith, alternative-there names c.loop-left.left c.args.text.now c.args.a c.args.e c.span-s.result.now c.span-s.ensures c.loop-left.i c.seek-j.result c.seek-j.ensures j c.loop-left.invariant.1 c.value_size-size.ensures (search rules) c.if-left-count.false)
