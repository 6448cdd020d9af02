use mathlib.Core.Path.{refl, ap, ◌∙◌}
use mathlib.Core.List.{List}
use Prim.Native.Nat.{ℕ}
use Rattle.scan.specs.Bytes.{every}
use Rattle.pattern.specs.Items.{items, good_item, pattern_form}
use Rattle.form.proofs.pattern_form.Goals as goal

pub returns : goal.returns
unfolding pattern_form
returns c = c.every_item.ensures good_item (λ b. refl) (λ i r h g. cc) ∙ ap (λ (t : List ℕ). every good_item (items 0 t)) c.span.ensures
