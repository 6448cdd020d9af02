use Rattle.names.specs.Names.{name_form}
use Rattle.names.proofs.name_form.Goals as goal

pub returns : goal.returns
unfolding name_form
returns c = rw (c.begins_name.ensures, c.are_name_bytes.ensures)
