use borrow.Author.Rules.{rules}
use mathlib.Core.Path.{sym, ◌∙◌}
use native.Mathlib.Omega.{arith}
use Rattle.blanks.proofs.Laws.{skip-blank, skip-other, skip-include, skip-hash, skip-end}
use Rattle.blanks.proofs.standing_at.Goals as goal

pub loop-i-preserved-then-is_blank : goal.loop-i-preserved-then-is_blank
loop-i-preserved-then-is_blank c = omega (arith, skip-blank c.args.text.now c.loop-i.i (search rules) (sym c.is_blank.ensures ∙ c.if-is_blank.true))

pub returns-then-b-ne35 : goal.returns-then-b-ne35
returns-then-b-ne35 c = omega (arith, skip-other c.args.text.now c.loop-i.i (search rules) (sym c.is_blank.ensures ∙ c.if-is_blank.false) c.if-b-ne35.true)

pub returns-then-is_include : goal.returns-then-is_include
returns-then-is_include c = omega (arith, skip-include c.args.text.now c.loop-i.i (search rules) c.if-b-ne35.false (sym c.is_include.ensures ∙ c.if-is_include.true))

pub loop-i-preserved : goal.loop-i-preserved
loop-i-preserved c = sym (skip-hash c.args.text.now c.loop-i.i (search rules) c.if-b-ne35.false (sym c.is_include.ensures ∙ c.if-is_include.false) c.comment_end-i.result c.comment_end-i.ensures) ∙ c.loop-i.invariant

pub returns : goal.returns
returns c = omega (arith, skip-end c.args.text.now c.loop-i.i (search rules))
