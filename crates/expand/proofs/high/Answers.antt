use mathlib.Core.Path.{sym}
use native.Mathlib.Nat.{div-one}
use borrow.Author.Tests.{eq-eqb, ne_eqb}
use Rattle.sizes.specs.Numbered.{high_of}
use Rattle.expand.proofs.high.Goals as goal

pub returns-then-c-eq1 : goal.returns-then-c-eq1
unfolding high_of
returns-then-c-eq1 c = rw c.if-c-eq1.true (sym (div-one c.args.d))

pub returns-then-c-eq0 : goal.returns-then-c-eq0
unfolding high_of
returns-then-c-eq0 c = rw (eq-eqb _ _ c.if-c-eq0.true, high_of)

pub returns : goal.returns
unfolding high_of
returns c = rw (ne_eqb _ _ c.if-c-eq0.false, high_of)
