use mathlib.Core.Path.{◌∙◌}
use Rattle.flat.proofs.ask.Goals as goal

pub returns : goal.returns
returns c = c.fill.ensures ∙ c.ask_brief.ensures
