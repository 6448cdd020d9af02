use native.Mathlib.Omega.{arith}
use Rattle.glob.proofs.Laws.{draft-gone}
use Rattle.glob.proofs.match_long.Goals as goal

pub returns-in_default : goal.returns-in_default
returns-in_default c = draft-gone c.args.text.now c.args.path.now c.args.slash _ c.requires c.write_pattern.ensures (omega arith) c.in_default.is
