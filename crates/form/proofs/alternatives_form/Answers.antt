use Rattle.std.proofs.Common.{rules}
use Rattle.pattern.specs.Items.{value_form}
use Rattle.form.proofs.alternatives_form.Goals as goal

pub returns : goal.returns
returns c = c.every_alternative.ensures value_form (λ i j r h k g. search rules)
