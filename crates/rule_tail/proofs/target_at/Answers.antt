use native.Mathlib.Omega.{arith}
use Prim.Native.Nat.{◌≤◌, ◌-◌}
use mathlib.Core.Path.{sym, ◌∙◌}
use lib.ListN.{length}
use Rattle.scan.specs.Bytes.{bytes}
use Rattle.blanks.specs.Blanks.{standing}
use Rattle.rule_tail.specs.Tails.{target_at}
use Rattle.rule_tail.specs.Places.{target_after}
use Rattle.blanks.proofs.Laws.{stands-inside}
use Rattle.rule_tail.proofs.target_at.Goals as goal

pub overflow_add-arrow : goal.overflow_add-arrow
unfolding bytes
overflow_add-arrow c =
    let h : 2 ≤ length c.args.text.now - standing c.args.text.now c.args.at.0 = stands-inside (bytes "->") c.args.text.now c.args.at.0 (sym c.stands_at.ensures ∙ c.if-stands_at.true) in
    omega (arith, c.standing_at-arrow.ensures)

pub returns-then-takes_target : goal.returns-then-takes_target
unfolding target_at target_after bytes
returns-then-takes_target c = rw (c.target_after.ensures, c.standing_at-arrow.ensures, ← c.stands_at.ensures, c.if-stands_at.true, ← c.takes_target.ensures, c.if-takes_target.true, target_at)

pub returns-then-stands_at : goal.returns-then-stands_at
unfolding target_at bytes
returns-then-stands_at c = rw (c.standing_at-arrow.ensures, ← c.stands_at.ensures, c.if-stands_at.true, ← c.takes_target.ensures, c.if-takes_target.false, target_at)

pub returns : goal.returns
unfolding target_at bytes
returns c = rw (← c.stands_at.ensures, c.if-stands_at.false, target_at)
