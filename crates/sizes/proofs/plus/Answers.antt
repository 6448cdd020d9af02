use native.Mathlib.Omega.{arith}
use mathlib.Core.Path.{refl}
use Rattle.sizes.specs.Sizes.{plus_of}
use Rattle.sizes.proofs.Laws.{size-eq}
use Rattle.sizes.proofs.plus.Goals as goal

pub returns : goal.returns
unfolding plus_of
returns c = size-eq (omega arith) (omega arith) refl refl
