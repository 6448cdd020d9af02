use native.Mathlib.Omega.{arith}
use Prim.Native.Nat.{◌≤◌, ◌-◌}
use mathlib.Core.Path.{sym, ◌∙◌}
use lib.ListN.{length}
use Rattle.scan.specs.Bytes.{bytes}
use Rattle.blanks.specs.Blanks.{standing}
use Rattle.text.proofs.Refusals.{seen-refused}
use Rattle.rule.specs.Rules.{body_at}
use Rattle.rule.proofs.Laws.{pattern-from}
use Rattle.rule.specs.Places.{seen_qualifiers}
use Rattle.statement.specs.Steps.{start_at}
use Rattle.blanks.proofs.Laws.{stands-inside}
use Rattle.statement.proofs.start_at.Goals as goal

pub overflow_add-result : goal.overflow_add-result
unfolding bytes
overflow_add-result c =
    let h : 1 ≤ length c.args.text.now - standing c.args.text.now c.args.at.0 = stands-inside (bytes "}") c.args.text.now c.args.at.0 (sym c.stands_at.ensures ∙ c.if-stands_at.true) in
    omega (arith, c.standing_at-brace.ensures)

pub returns-then-stands_at : goal.returns-then-stands_at
unfolding start_at body_at bytes
returns-then-stands_at c = rw (c.standing_at-brace.ensures, ← c.stands_at.ensures, c.if-stands_at.true, body_at)

pub returns-in_err-token : goal.returns-in_err-token
unfolding start_at body_at bytes
returns-in_err-token c = seen-refused _ _ c.from_residual.ensures.1 ∙ rw (← c.stands_at.ensures, c.if-stands_at.false, ← c.qualifiers_at-q.ensures.is, ← pattern-from _ (seen_qualifiers c.qualifiers_at-q.result) c.qualifiers_at-q.ensures.token, ← c.in_err-token.ensures, body_at)

pub returns : goal.returns
unfolding start_at body_at bytes
returns c = rw (← c.stands_at.ensures, c.if-stands_at.false, ← c.qualifiers_at-q.ensures.is, ← pattern-from _ (seen_qualifiers c.qualifiers_at-q.result) c.qualifiers_at-q.ensures.token, ← c.in_ok-token.ensures, body_at)
