use mathlib.Core.Path.{sym}
use Rattle.scan.proofs.Laws.{begins-at, begins-end}
use Rattle.scan.proofs.begins_at.Goals as goal

pub returns-then-at-s : goal.returns-then-at-s
returns-then-at-s c = sym (begins-at c.args.c c.args.s.now c.args.at c.if-at-s.true)

pub returns : goal.returns
returns c = sym (begins-end c.args.c c.args.s.now c.args.at c.if-at-s.false)
