use Rattle.profile.proofs.Laws.{one_more}
use borrow.Author.Rules.{rules}
use Rattle.profile.proofs.with_profile.Goals as goal

pub returns : goal.returns
returns c = one_more c.args.profiles c.args.name c.args.rules c.args.count (search rules) c.requires
