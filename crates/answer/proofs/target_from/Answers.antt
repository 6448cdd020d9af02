use Rattle.answer.proofs.Laws.{filled}
use Rattle.answer.proofs.target_from.Goals as goal

pub returns : goal.returns
returns c = filled c.args.name.now c.copy_from_slice.new.self c.least-len.result c.least-len.ensures c.copy_from_slice.ensures.after
