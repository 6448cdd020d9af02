use Rattle.scan.specs.Bytes.{bytes}
use Rattle.rule.proofs.take_deny.Goals as goal

pub returns : goal.returns
unfolding bytes
returns c = λ k. record { is = rw c.if-allow.false (c.take_word.ensures k).is; token = (c.take_word.ensures k).token }
