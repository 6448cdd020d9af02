use mathlib.Core.Path.{ap, ◌∙◌}
use Prim.Native.Nat.{ℕ}
use mathlib.Core.List.{List}
use lib.ListN.{length}
use Rattle.pattern.specs.Items.{alternatives}
use lib.Dec.{leb}
use Rattle.form.proofs.Laws.{parted}
use Rattle.form.proofs.is_parted.Goals as goal

pub returns : goal.returns
returns c = parted c.span-s.result.now c.seek.result c.seek.ensures ∙ ap (λ (l : List ℕ). leb 2 (length (alternatives l))) c.span-s.ensures
