use mathlib.Core.Path.{refl}
use Rattle.tokens.proofs.is_in_quotes.Goals as goal

pub returns : goal.returns
returns c = refl
