use mathlib.Core.Path.{refl, ap, ◌∙◌}
use mathlib.Core.List.{List}
use Prim.Native.Nat.{ℕ}
use Rattle.scan.specs.Bytes.{every}
use Rattle.pattern.specs.Pieces.{parts}
use Rattle.pattern.specs.Items.{names_part, value_names}
use Rattle.pattern.specs.Expansions.{is_set}
use Rattle.pattern.specs.Table.{env}
use Rattle.form.proofs.value_names.Goals as goal

pub returns : goal.returns
unfolding value_names
returns c =
    c.every_part.ensures (names_part (is_set (env c.args.text.now c.args.vars.now c.args.n))) (λ b. refl) (λ i r h g. cc)
    ∙ ap (λ (t : List ℕ). every (names_part (is_set (env c.args.text.now c.args.vars.now c.args.n))) (parts 0 t)) c.span.ensures
