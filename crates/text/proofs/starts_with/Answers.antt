use mathlib.Core.Path.{sym, ◌∙◌}
use lib.ListN.{length, take}
use Rattle.scan.proofs.Laws.{same-turned}
use Rattle.text.proofs.starts_with.Goals as goal

pub returns : goal.returns
returns c = c.starts_with.ensures.value ∙ sym (same-turned (take (length c.args.word.now) c.args.s.now) c.args.word.now)
