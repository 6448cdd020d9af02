use mathlib.Core.Path.{sym, ◌∙◌}
use native.Mathlib.Omega.{arith}
use Rattle.words.proofs.Turns.{front_goes, front-stops, front_ends}
use Rattle.words.proofs.front_len.Goals as goal

pub loop-i-preserved : goal.loop-i-preserved
loop-i-preserved c = omega (arith, c.loop-i.invariant, front_goes c.loop-i.slash c.args.pattern.now c.loop-i.i (omega arith) (sym c.plain.ensures ∙ c.if-not-plain.false))

pub returns-then-not-plain : goal.returns-then-not-plain
returns-then-not-plain c = omega (arith, c.loop-i.invariant, front-stops c.loop-i.slash c.args.pattern.now c.loop-i.i (omega arith) (sym c.plain.ensures ∙ c.if-not-plain.true))

pub returns : goal.returns
returns c = omega (arith, c.loop-i.invariant, front_ends c.loop-i.slash c.args.pattern.now c.loop-i.i (omega arith))
