use native.Mathlib.Omega.{arith}
use Rattle.answer.proofs.Laws.{granted-mode, granted-none}
use Rattle.answer.proofs.granted_of.Goals as goal

pub returns-then-mode : goal.returns-then-mode
returns-then-mode c = rw (c.if-mode.true, c.difference-granted.ensures, c.both.ensures) (granted-mode c.args.asked c.args.allowed c.args.denied (omega arith))

pub returns : goal.returns
returns c = rw (c.if-mode.false, c.difference.ensures, c.difference-granted.ensures, c.both.ensures) (granted-none c.args.asked c.args.allowed c.args.denied (omega arith))
