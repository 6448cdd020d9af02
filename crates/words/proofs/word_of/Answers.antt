use mathlib.Core.Path.{◌∙◌}
use native.Mathlib.Omega.{arith}
use Rattle.words.proofs.Turns.{word-short}
use Rattle.words.proofs.word_of.Goals as goal

pub returns : goal.returns
returns c = c.number-2.ensures ∙ word-short 8 c.args.s.now (omega arith)
