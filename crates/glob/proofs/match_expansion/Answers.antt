use native.Mathlib.Omega.{arith}
use mathlib.Core.Path.{ap, ◌∙◌}
use mathlib.Core.Logic.{inr}
use mathlib.Core.List.{List}
use Rattle.pattern.specs.Pieces.{Piece}
use Rattle.glob.specs.Glob.{matched_by}
use Rattle.glob.proofs.Laws.{draft-gone, draft-whole}
use Rattle.glob.proofs.match_expansion.Goals as goal

pub returns-in_default : goal.returns-in_default
returns-in_default c = draft-gone c.args.text.now c.args.path.now c.args.slash _ c.requires c.write_pattern.ensures (omega arith) c.in_default.is

pub returns-then-count-lt-SHORT : goal.returns-then-count-lt-SHORT
returns-then-count-lt-SHORT c =
    c.match_codes.ensures
    ∙ ap (λ (x : List Piece). matched_by c.args.slash x c.args.path.now) (draft-whole c.args.text.now c.args.path.now c.args.slash _ c.requires c.write_pattern.ensures (omega arith) c.in-Some.is (inr (omega arith)))
