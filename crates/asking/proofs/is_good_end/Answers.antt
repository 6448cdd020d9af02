use borrow.Author.Rules.{rules}
use Rattle.asking.specs.Asking.{good_end}
use Rattle.asking.proofs.is_good_end.Goals as goal

pub returns : goal.returns
unfolding good_end
returns c = rw c.is_good_target.ensures
