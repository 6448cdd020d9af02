use mathlib.Core.Path.{refl}
use Rattle.words.specs.Words.{is_out}
use Rattle.words.proofs.is_out.Goals as goal

pub returns : goal.returns
unfolding is_out
returns c = refl
