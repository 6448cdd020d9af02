use borrow.Author.Rules.{rules}
use mathlib.Core.Path.{ap, ◌∙◌}
use Rattle.sidluqethe.specs.Told.{match_number}
use Rattle.sidluqethe.proofs.sidluqethe_match.Goals as goal

pub returns : goal.returns
returns c = c.match_number.ensures ∙ ap match_number c.match_at.ensures
