use mathlib.Core.Path.{refl, ap, ◌∙◌}
use mathlib.Core.List.{List}
use Prim.Native.Nat.{ℕ}
use Rattle.std.proofs.Common.{rules, tests}
use Rattle.scan.specs.Bytes.{every}
use Rattle.pattern.specs.Pieces.{parts}
use Rattle.pattern.specs.Items.{good_part, value_form}
use Rattle.form.proofs.value_form.Goals as goal

pub returns : goal.returns
unfolding value_form
returns c = c.every_part.ensures good_part (λ b. refl) (λ i r h g. search (rules, tests)) ∙ ap (λ (t : List ℕ). every good_part (parts 0 t)) c.span.ensures
