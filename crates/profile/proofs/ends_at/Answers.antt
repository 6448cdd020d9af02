use mathlib.Core.Path.{sym}
use borrow.Author.Rules.{rules}
use Rattle.tokens.specs.Places.{seen}
use Rattle.profile.proofs.Laws.{not-end}
use Rattle.profile.proofs.ends_at.Goals as goal

pub returns-in-End : goal.returns-in-End
unfolding seen
returns-in-End c = rw (← c.next_token.ensures, c.in-End.is, seen)

pub returns-in_default : goal.returns-in_default
returns-in_default c = rw (← c.next_token.ensures) (sym (not-end c.args.text.now c.next_token.result (search rules)))
