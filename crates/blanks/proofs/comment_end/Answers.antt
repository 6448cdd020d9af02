use borrow.Author.Rules.{rules}
use mathlib.Core.Path.{ap}
use mathlib.Core.Bool.{not}
use native.Mathlib.Omega.{arith}
use Rattle.scan.proofs.Laws.{run_more, run-stop, run_end}
use Rattle.blanks.specs.Blanks.{in_comment}
use Rattle.blanks.proofs.comment_end.Goals as goal

pub returns-then-b : goal.returns-then-b
returns-then-b c = omega (arith, run-stop in_comment c.args.text.now c.loop-i.i (search rules) (ap not c.if-b.true))

pub loop-i-preserved : goal.loop-i-preserved
loop-i-preserved c = omega (arith, run_more in_comment c.args.text.now c.loop-i.i (search rules) (ap not c.if-b.false))

pub returns : goal.returns
returns c = omega (arith, run_end in_comment c.args.text.now c.loop-i.i (search rules))
