use borrow.Author.Rules.{rules}
use mathlib.Core.Path.{ap}
use mathlib.Core.Bool.{Bool, not, ◌||◌}
use lib.Dec.{eqb}
use Rattle.asking.specs.Steps.{out_of}
use Rattle.asking.proofs.is_out.Goals as goal

pub returns : goal.returns
unfolding out_of
returns c s = ap (λ (b : Bool). not (eqb c.args.entry.rule.profile c.args.query.profile) || b) c.is_out.ensures
