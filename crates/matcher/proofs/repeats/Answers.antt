use mathlib.Core.Path.{sym}
use Rattle.matcher.proofs.Codes.{repeats-decode}
use Rattle.matcher.proofs.repeats.Goals as goal

pub returns : goal.returns
returns c = λ text. sym (repeats-decode text c.args.code)
