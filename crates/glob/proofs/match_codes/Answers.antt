use mathlib.Core.List.{map}
use lib.ListN.{take}
use Rattle.pattern.specs.Codes.{decode}
use Rattle.codes.proofs.Laws.{joins-decode}
use Rattle.glob.proofs.Laws.{codes-matched}
use Rattle.glob.proofs.match_codes.Goals as goal

pub returns : goal.returns
returns c = codes-matched c.args.path.now c.args.slash (map (decode c.args.text.now) (take c.args.count c.args.codes.now)) c.requires (c.is_literal-literal.ensures c.args.text.now) (joins-decode c.args.text.now c.join_slashes-left.ensures) c.matched-some.ensures
