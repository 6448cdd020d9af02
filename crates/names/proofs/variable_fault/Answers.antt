use Rattle.names.specs.Names.{variable_fault}
use Rattle.names.proofs.variable_fault.Goals as goal

pub returns-then-holds_byte : goal.returns-then-holds_byte
unfolding variable_fault
returns-then-holds_byte c = rw (← c.holds_byte.ensures, c.if-holds_byte.true)

pub returns-then-variable_form : goal.returns-then-variable_form
unfolding variable_fault
returns-then-variable_form c = rw (← c.holds_byte.ensures, c.if-holds_byte.false, ← c.variable_form.ensures, c.if-variable_form.true)

pub returns : goal.returns
unfolding variable_fault
returns c = rw (← c.holds_byte.ensures, c.if-holds_byte.false, ← c.variable_form.ensures, c.if-variable_form.false)
