use Rattle.flat.proofs.load.Goals as goal

pub returns : goal.returns
returns c = rw (c.front_at-front.ensures, c.rule_at-rule.ensures)
