use mathlib.Core.Path.{sym}
use native.Mathlib.Omega.{arith}
use Rattle.perms.proofs.Laws.{or-unite}
use Rattle.perms.proofs.Perms.union.Goals as goal

pub returns : goal.returns
returns c = sym (or-unite c.args.self c.args.other (omega arith) (omega arith))
