use borrow.Author.Rules.{rules}
use native.Mathlib.Omega.{arith}
use Prim.Native.Nat.{◌+◌, ◌-◌}
use mathlib.Core.Path.{◌≡◌, sym, ◌∙◌}
use mathlib.Core.Bool.{or-false}
use lib.ListN.{length, drop}
use lib.Seq.{drop-drop}
use Rattle.request.proofs.Laws.{broken_in, broken-none, broken-add, broken-block, broken-last, broken-cover, broken-more_block}
use Rattle.request.proofs.is_broken.Goals as goal

pub loop-at-init : goal.loop-at-init
loop-at-init c =
    let last = length c.args.path.now - 17 in
    let block : c.is_block_broken.result ≡ broken_in 16 (drop last c.args.path.now) = c.is_block_broken.ensures ∙ sym (broken-block _) in
    let e : last + 16 ≡ length c.args.path.now - 1 = omega arith in
    (search rules, rw (broken-none, or-false, block, broken-add 16 1 (drop last c.args.path.now), drop-drop, e, broken-last c.args.path.now (length c.args.path.now - 1) (omega arith)))

pub loop-at-preserved : goal.loop-at-preserved
loop-at-preserved c = (omega arith, broken-more_block c.args.path.now c.loop-at.at _ _ _ c.loop-at.invariant.1 c.is_block_broken-broken.ensures)

pub returns-else-n-lt17 : goal.returns-else-n-lt17
returns-else-n-lt17 c = c.loop-at.invariant.1 ∙ broken-cover c.args.path.now (length c.args.path.now - 17) c.loop-at.at 17 (omega arith) (omega arith) (omega arith)

pub returns-else-n-lt17-2 : goal.returns-else-n-lt17-2
returns-else-n-lt17-2 c =
    broken-more_block c.args.path.now c.loop-at.at _ _ _ c.loop-at.invariant.1 c.is_block_broken-broken.ensures
    ∙ broken-cover c.args.path.now (length c.args.path.now - 17) (c.loop-at.at + 16) 17 (omega arith) (omega arith) (omega arith)
