use Rattle.matcher.proofs.mark.Goals as goal

pub returns-then-many : goal.returns-then-many
returns-then-many c = rw c.if-many.true

pub returns-else-many : goal.returns-else-many
returns-else-many c = rw c.if-many.false
