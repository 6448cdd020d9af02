use mathlib.Core.Path.{sym, ap, ◌∙◌}
use Prim.Native.Nat.{min}
use Rattle.scan.specs.Bytes.{span}
use Rattle.pattern.specs.Items.{names_part}
use Rattle.pattern.specs.Reads.{seen_part}
use Rattle.pattern.specs.Expansions.{is_set}
use Rattle.pattern.specs.Table.{env}
use Rattle.pattern.specs.declared.PartRead.{PartRead}
use Rattle.pattern.proofs.Laws.{number-set}
use Rattle.form.proofs.known_part.Goals as goal

pub returns-in-Use : goal.returns-in-Use
returns-in-Use c = rw c.named.ensures (sym (number-set c.args.text.now c.args.vars.now (span c.args.text.now c.in-Use.start c.in-Use.end) (min 32 c.args.n))) ∙ sym (ap (λ (r : PartRead). names_part (is_set (env c.args.text.now c.args.vars.now c.args.n)) (seen_part c.args.text.now r)) c.in-Use.is)
