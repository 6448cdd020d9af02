use native.Mathlib.Omega.{arith}
use mathlib.Core.List.{[]}
use Rattle.expand.proofs.Laws.{writing-byte, writing-done, run-done}
use Rattle.expand.proofs.push_run.Goals as goal

pub push-w-requires : goal.push-w-requires
push-w-requires c = omega (arith, (c.loop-b.invariant []).wrote.size, (c.loop-b.invariant []).wrote.fits)

pub loop-b-preserved : goal.loop-b-preserved
loop-b-preserved c = λ text. writing-byte c.args.s.now c.loop-b.b-index c.loop-b-test.true (c.type_inv.s c.loop-b.b-index).fits (c.loop-b.invariant text) (c.push-w.ensures text)

pub returns : goal.returns
returns c = λ text. writing-done (c.loop-b.invariant text) (run-done c.args.s.now c.loop-b.b-index (omega arith))
