use Rattle.tokens.proofs.is_word.Goals as goal

pub returns : goal.returns
returns c = rw (c.same_bytes.ensures, c.content-bytes.ensures)
