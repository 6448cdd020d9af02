use mathlib.Core.Path.{◌∙◌}
use borrow.Author.Rules.{rules}
use Rattle.asking.proofs.conclude.Goals as goal

pub returns : goal.returns
returns c = c.fill.ensures ∙ c.conclude_brief.ensures _
