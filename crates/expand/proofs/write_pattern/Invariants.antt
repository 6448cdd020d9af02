use mathlib.Core.Path.{◌≡◌}
use mathlib.Core.Bool.{false}
use Prim.Native.Nat.{◌-◌, min}
use lib.ListN.{length, drop}
use Rattle.scan.specs.Bytes.{span}
use Rattle.pattern.specs.Items.{items}
use Rattle.pattern.specs.Expansions.{of_items}
use Rattle.sizes.specs.Numbered.{numbering, name_by, pattern_by}
use Rattle.expand.proofs.Laws.{Writing, held_to}
use Rattle.expand.proofs.write_pattern.Given as goal

abbrev pub invariant-loop-at : goal.invariant-loop-at
invariant-loop-at l = Writing l.text l.initial.out 0 l.out l.w ((of_items numbering (name_by l.text l.vars l.sizes (min 32 l.n)) (items 0 (drop l.at l.s))).nth l.left) ((pattern_by l.text l.vars l.n l.sizes (span l.text l.a l.e)).nth l.d)
    × (l.held ≡ held_to l.text l.slash l.path l.out l.w)
    × (l.held.gone ≡ false)

abbrev pub decreases-loop-at : goal.decreases-loop-at
decreases-loop-at l = length l.s - l.at
