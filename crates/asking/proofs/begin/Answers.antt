use borrow.Author.Rules.{rules}
use mathlib.Core.Path.{ap, ◌∙◌}
use Prim.Native.Nat.{min}
use Rattle.asking.proofs.Laws.{query-refused, query-nowhere, query-found}
use Rattle.asking.proofs.begin.Goals as goal

pub returns-then-number-ne0 : goal.returns-then-number-ne0
returns-then-number-ne0 c = query-refused c.args.text.now c.args.head.now c.args.records c.args.name.now c.args.path.now c.args.asked c.args.owner c.words_of-words.ensures c.refused_for-number.ensures c.if-number-ne0.true

pub returns-in_default : goal.returns-in_default
returns-in_default c = query-nowhere c.args.text.now c.args.head.now c.args.records c.args.name.now c.args.path.now c.args.asked c.args.owner c.refused_for-number.ensures c.if-number-ne0.false c.find.ensures c.words_of-words.ensures c.in_default.is

pub returns : goal.returns
returns c = query-found c.args.text.now c.args.head.now c.args.records c.args.name.now c.args.path.now c.args.asked c.args.owner c.refused_for-number.ensures c.if-number-ne0.false c.find.ensures c.words_of-words.ensures c.in-Some.is c.cell.ensures (c.least.ensures ∙ ap (min c.args.records) c.cell-2.ensures)
