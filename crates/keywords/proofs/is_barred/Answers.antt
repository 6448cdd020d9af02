use Rattle.scan.specs.Bytes.{bytes}
use Rattle.keywords.specs.Keywords.{not_taken}
use Rattle.keywords.proofs.Laws.{barred-by}
use Rattle.keywords.proofs.is_barred.Goals as goal

pub returns : goal.returns
unfolding not_taken bytes
returns c = rw (c.is_fixed.ensures, c.starts_with.ensures, c.starts_with-2.ensures, c.same_bytes.ensures) (barred-by c.args.inside c.args.word.now)
