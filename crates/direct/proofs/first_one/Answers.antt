use mathlib.Core.Path.{◌∙◌}
use Rattle.scan.proofs.Laws.{no_length}
use Rattle.direct.specs.Direct.{one_at}
use Rattle.direct.proofs.Turns.{one-any, one-class, one-plain}
use Rattle.direct.proofs.first_one.Goals as goal

pub returns-in_err-c : goal.returns-in_err-c
unfolding one_at
returns-in_err-c c = rw (c.from_residual.ensures, no_length c.args.s.now c.in_err-c.ensures.cases)

pub returns-then-c-eq63 : goal.returns-then-c-eq63
returns-then-c-eq63 c = one-any c.args.slash c.args.b c.args.s.now _ _ c.in_ok-c.ensures.cases.0 c.if-c-eq63.true

pub returns-then-c-eq91 : goal.returns-then-c-eq91
returns-then-c-eq91 c = c.class_one.ensures ∙ one-class c.args.slash c.args.b c.args.s.now _ _ c.in_ok-c.ensures.cases.0 c.if-c-eq63.false c.if-c-eq91.true

pub returns-then-plain : goal.returns-then-plain
returns-then-plain c = rw c.if-plain.true at (one-plain c.args.slash c.args.b c.args.s.now _ _ c.in_ok-c.ensures.cases.0 c.if-c-eq63.false c.if-c-eq91.false c.plain.result c.plain.ensures)

pub returns : goal.returns
returns c = rw c.if-plain.false at (one-plain c.args.slash c.args.b c.args.s.now _ _ c.in_ok-c.ensures.cases.0 c.if-c-eq63.false c.if-c-eq91.false c.plain.result c.plain.ensures)
