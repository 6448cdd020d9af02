use mathlib.Core.Path.{refl, ap, ◌∙◌}
use mathlib.Core.List.{List}
use Prim.Native.Nat.{ℕ}
use Rattle.scan.specs.Bytes.{every}
use Rattle.pattern.specs.Items.{items, names_item, pattern_names}
use Rattle.pattern.specs.Expansions.{is_set}
use Rattle.pattern.specs.Table.{env}
use Rattle.form.proofs.pattern_names.Goals as goal

pub returns : goal.returns
unfolding pattern_names
returns c =
    c.every_item.ensures (names_item (is_set (env c.args.text.now c.args.vars.now c.args.n))) (λ b. refl) (λ i r h g. cc)
    ∙ ap (λ (t : List ℕ). every (names_item (is_set (env c.args.text.now c.args.vars.now c.args.n))) (items 0 t)) c.span.ensures
