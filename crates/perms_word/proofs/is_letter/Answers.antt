use mathlib.Core.Path.{sym, ◌∙◌}
use Rattle.scan.specs.Bytes.{bytes}
use Rattle.scan.proofs.Laws.{holds-any}
use Rattle.perms_word.specs.Words.{letters}
use Rattle.perms_word.proofs.is_letter.Goals as goal

pub returns : goal.returns
unfolding letters bytes
returns c = c.contains.ensures.value ∙ sym (holds-any c.args.b (bytes "rwamlk"))
