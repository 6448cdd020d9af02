use Prim.Native.Nat.{◌+◌, ◌-◌, ◌*◌, min}
use lib.ListN.{length, drop}
use Rattle.scan.specs.Bytes.{span}
use Rattle.pattern.specs.Pieces.{parts}
use Rattle.pattern.specs.Expansions.{of_parts}
use Rattle.sizes.specs.Numbered.{numbering, name_by, value_by}
use Rattle.expand.proofs.Laws.{Writing}
use Rattle.expand.proofs.+write_part_write_value.Given as goal

abbrev pub decreases-write_part : goal.decreases-write_part
decreases-write_part l = 2 * l.n

abbrev pub decreases-write_value : goal.decreases-write_value
decreases-write_value l = 2 * l.n + 1

abbrev pub invariant-write_value-loop-at : goal.invariant-write_value-loop-at
invariant-write_value-loop-at l =
    Writing l.text l.fn.out l.m l.out l.w ((of_parts numbering (name_by l.text l.vars l.sizes (min 32 l.n)) (parts 0 (drop l.at l.s))).nth l.left)
    ((value_by l.text l.vars l.n l.sizes (span l.text l.a l.e)).nth l.d)

abbrev pub decreases-write_value-loop-at : goal.decreases-write_value-loop-at
decreases-write_value-loop-at l = length l.s - l.at
