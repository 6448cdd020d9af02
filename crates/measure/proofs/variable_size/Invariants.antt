use Prim.Native.Nat.{◌+◌, ◌-◌, ◌*◌, min}
use lib.ListN.{get_or}
use Rattle.pattern.specs.Table.{values_from, values_of}
use Rattle.sizes.specs.Numbered.{name_by, one_by}
use Rattle.sizes.proofs.Loops.{Summed, one_from}
use Rattle.measure.proofs.variable_size.Given as goal

abbrev pub invariant-loop-k : goal.invariant-loop-k
invariant-loop-k l =
    Summed l.size (one_from (name_by l.text l.vars l.sizes (min 32 l.w)) (values_from l.text l.vars (min 16 (get_or l.vars (64 + l.w) 0) - l.k) (16 * l.w + l.k)))
    (one_by l.text l.vars l.w l.sizes (values_of l.text l.vars l.w)).size
