use mathlib.Core.Path.{ap₂, ◌∙◌}
use Prim.Native.Nat.{min}
use native.Mathlib.Omega.{arith}
use Rattle.flat.proofs.Walk.{match-here, match-nowhere}
use Rattle.flat.proofs.match_at.Goals as goal

pub returns-then-k-least : goal.returns-then-k-least
returns-then-k-least c =
    let e = c.least.ensures ∙ ap₂ min c.room_in.ensures c.cell.ensures in
    c.match_record.ensures ∙ match-here c.args.text.now c.args.memory.now c.args.name.now c.args.path.now c.args.owner c.args.k e c.if-k-least.true c.load.ensures

pub returns : goal.returns
returns c =
    let e = c.least.ensures ∙ ap₂ min c.room_in.ensures c.cell.ensures in
    match-nowhere c.args.text.now c.args.memory.now c.args.name.now c.args.path.now c.args.owner c.args.k e (omega arith)
