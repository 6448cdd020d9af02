use native.Mathlib.Omega.{arith}
use Rattle.answer.proofs.Laws.{recorded-each}
use Rattle.answer.proofs.recorded_of.Goals as goal

pub returns : goal.returns
returns c = rw (c.union-2.ensures, c.union.ensures, c.difference.ensures, c.both-by_deny.ensures, c.both.ensures, c.both-by_allow.ensures, c.difference-refused.ensures) (recorded-each c.args.asked c.args.granted c.args.found.denied.all c.args.found.allowed.audited.0 c.args.found.denied.audited.0 (omega arith) (omega arith))
