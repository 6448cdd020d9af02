use mathlib.Core.Path.{sym}
use native.Mathlib.Omega.{arith}
use Rattle.perms.proofs.Laws.{and-without}
use Rattle.perms.proofs.Perms.difference.Goals as goal

pub returns : goal.returns
returns c = sym (and-without c.args.self c.args.other (omega arith) (omega arith))
