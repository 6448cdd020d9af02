use Rattle.matcher.proofs.Codes.{accepts-star}
use Rattle.matcher.proofs.takes_all.Goals as goal

pub returns : goal.returns
returns c = λ text h. rw c.holds_byte.ensures (accepts-star text c.args.code c.args.path.now h)
