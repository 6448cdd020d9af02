use borrow.Author.Rules.{rules}
use native.Mathlib.Omega.{arith}
use Prim.Native.Nat.{◌+◌}
use Prim.Native.Char.{code}
use mathlib.Core.Path.{sym, ap, ◌∙◌}
use mathlib.Core.Bool.{Bool, ◌||◌, ◌&&◌, or_assoc, or-false}
use lib.ListN.{get_or, drop}
use lib.Dec.{eqb}
use Rattle.blanks.specs.Blanks.{nul}
use Rattle.request.proofs.Laws.{broken_after, broken-more, broken-end}
use Rattle.request.proofs.is_short_broken.Goals as goal

pub loop-b-init : goal.loop-b-init
loop-b-init c = or-false _

pub loop-b-preserved : goal.loop-b-preserved
loop-b-preserved c =
    let z = eqb (get_or c.args.path.now c.loop-b.b-index 0) nul in
    let t = c.loop-b.slash && eqb (get_or c.args.path.now c.loop-b.b-index 0) (code "/") in
    let rest = broken_after (eqb (get_or c.args.path.now c.loop-b.b-index 0) (code "/")) (drop (c.loop-b.b-index + 1) c.args.path.now) in
    ap (λ (x : Bool). x || rest) (or_assoc c.loop-b.broken z t) ∙ or_assoc c.loop-b.broken (z || t) rest
    ∙ ap (λ (x : Bool). c.loop-b.broken || x) (sym (broken-more c.args.path.now c.loop-b.b-index c.loop-b.slash (search rules))) ∙ c.loop-b.invariant

pub returns : goal.returns
returns c = sym (ap (λ (x : Bool). c.loop-b.broken || x) (broken-end c.args.path.now c.loop-b.b-index c.loop-b.slash (omega arith)) ∙ or-false c.loop-b.broken) ∙ c.loop-b.invariant
