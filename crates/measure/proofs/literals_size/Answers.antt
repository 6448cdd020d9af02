use mathlib.Core.Path.{sym, refl, ◌∙◌}
use Rattle.sizes.proofs.Laws.{size-eq}
use Rattle.sizes.proofs.Loops.{literals-none, literals-some}
use borrow.Author.Rules.{rules}
use Rattle.measure.proofs.literals_size.Goals as goal

pub returns-then-end-at : goal.returns-then-end-at
returns-then-end-at c = sym (literals-none c.args.s.now c.args.at c.args.end c.if-end-at.true)

pub returns : goal.returns
returns c = size-eq refl c.least.ensures refl refl ∙ sym (literals-some c.args.s.now c.args.at c.args.end (search rules) (search rules))
