use Rattle.matcher.proofs.takes_one.Goals as goal

pub returns : goal.returns
returns c = cc (c.repeats.ensures c.args.text.now)
