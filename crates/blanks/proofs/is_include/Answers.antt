use Rattle.scan.specs.Bytes.{bytes}
use Rattle.blanks.specs.Blanks.{includes}
use Rattle.blanks.proofs.is_include.Goals as goal

pub returns : goal.returns
unfolding includes bytes
returns c = rw c.bytes_from.ensures at c.starts_with.ensures
