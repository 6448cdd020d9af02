use Rattle.blanks.proofs.stands_at.Goals as goal

pub returns : goal.returns
returns c = rw (c.bytes_from.ensures, c.standing_at-place.ensures) at c.starts_with.ensures
