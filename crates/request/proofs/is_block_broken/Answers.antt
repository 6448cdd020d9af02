use native.Mathlib.Omega.{arith}
use Prim.Native.Nat.{◌+◌}
use mathlib.Core.Path.{◌≡◌, sym, ◌∙◌}
use mathlib.Core.Bool.{or_assoc}
use lib.ListN.{drop}
use lib.Seq.{drop-drop}
use Rattle.request.proofs.Laws.{broken-none, broken-block, broken-add, broken-pair}
use Rattle.request.proofs.is_block_broken.Goals as goal

pub loop-i-init : goal.loop-i-init
loop-i-init c = sym (broken-none _)

pub loop-i-preserved : goal.loop-i-preserved
loop-i-preserved c = rw (or_assoc, broken-add c.loop-i.i 1 (drop c.args.at c.args.path.now), drop-drop, broken-pair c.args.path.now (c.args.at + c.loop-i.i) (omega arith), ← c.loop-i.invariant)

pub returns : goal.returns
returns c =
    let e : c.loop-i.i ≡ 16 = omega arith in
    (rw e at c.loop-i.invariant) ∙ broken-block _
