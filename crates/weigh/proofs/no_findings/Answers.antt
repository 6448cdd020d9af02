use mathlib.Core.Path.{refl}
use Rattle.findings.specs.Weighed.{seen_choice, seen_findings}
use Rattle.weigh.proofs.no_findings.Goals as goal

pub returns : goal.returns
unfolding seen_findings seen_choice
returns c = λ s. refl
