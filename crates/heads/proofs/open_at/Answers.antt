use native.Mathlib.Omega.{arith}
use Prim.Native.Nat.{◌≤◌, ◌-◌}
use mathlib.Core.Path.{sym, ◌∙◌}
use lib.ListN.{length}
use Rattle.scan.specs.Bytes.{bytes}
use Rattle.blanks.specs.Blanks.{standing}
use Rattle.blanks.proofs.Laws.{stands-inside}
use Rattle.text.proofs.Refusals.{seen-refused}
use Rattle.heads.specs.Heads.{open_at}
use Rattle.heads.proofs.open_at.Goals as goal

pub overflow_add-result : goal.overflow_add-result
unfolding bytes
overflow_add-result c =
    let h : 1 ≤ length c.args.text.now - standing c.args.text.now c.args.at.0 = stands-inside (bytes "{") c.args.text.now c.args.at.0 (sym c.stands_at.ensures ∙ c.if-stands_at.true) in
    omega (arith, c.standing_at-brace.ensures)

pub returns-then-stands_at : goal.returns-then-stands_at
unfolding open_at bytes
returns-then-stands_at c = rw (c.standing_at-brace.ensures, ← c.stands_at.ensures, c.if-stands_at.true, open_at)

pub returns-in_err-t : goal.returns-in_err-t
unfolding open_at bytes
returns-in_err-t c = seen-refused _ _ c.from_residual.ensures.1 ∙ rw (← c.stands_at.ensures, c.if-stands_at.false, ← c.next_token.ensures, ← c.in_err-t.ensures c.args.text.now, open_at)

pub returns : goal.returns
unfolding open_at bytes
returns c = rw (← c.stands_at.ensures, c.if-stands_at.false, ← c.next_token.ensures, ← c.in_ok-t.ensures c.args.text.now, open_at)
