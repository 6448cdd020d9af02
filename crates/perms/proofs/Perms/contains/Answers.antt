use mathlib.Core.Path.{sym}
use native.Mathlib.Omega.{arith}
use Rattle.perms.proofs.Laws.{and-within}
use Rattle.perms.proofs.Perms.contains.Goals as goal

pub returns : goal.returns
returns c = sym (and-within c.args.other c.args.self (omega arith) (omega arith))
