use mathlib.Core.Path.{◌∙◌}
use Rattle.modes.proofs.Table.{equal-same}
use Rattle.modes.proofs.same_mode.Goals as goal

pub returns : goal.returns
returns c = c.eq.ensures ∙ equal-same c.args.a c.args.b
