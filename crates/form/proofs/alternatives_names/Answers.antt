use Rattle.std.proofs.Common.{rules}
use Rattle.pattern.specs.Items.{value_names}
use Rattle.pattern.specs.Expansions.{is_set}
use Rattle.pattern.specs.Table.{env}
use Rattle.form.proofs.alternatives_names.Goals as goal

pub returns : goal.returns
returns c = c.every_alternative.ensures (value_names (is_set (env c.args.text.now c.args.vars.now c.args.n))) (λ i j r h k g. search rules)
