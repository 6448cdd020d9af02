use Rattle.flat.specs.Layout.{front_at}
use mathlib.Core.Path.{refl}
use Rattle.flat.proofs.front_at.Goals as goal

pub returns : goal.returns
unfolding front_at
returns c = refl
