use native.Mathlib.Omega.{arith}
use mathlib.Core.Path.{refl}
use mathlib.Core.List.{[], ◌∷◌, map}
use Rattle.scan.specs.Bytes.{span}
use Rattle.scan.proofs.Laws.{run_inside}
use Rattle.pattern.specs.Pieces.{Byte}
use Rattle.pattern.specs.Literals.{ordinary}
use Rattle.sizes.proofs.Loops.{passed_first, passed-two, passed-all}
use Rattle.measure.proofs.sized.Goals as goal

pub literals_size-size-requires : goal.literals_size-size-requires
literals_size-size-requires g c = omega (arith, c.literal_end-at.ensures, run_inside ordinary c.args.s.now 0 (omega arith))

pub loop-at-init : goal.loop-at-init
loop-at-init g c = (
  omega (arith, c.literal_end-at.ensures, run_inside ordinary c.args.s.now 0 (omega arith)),
  λ left k. passed_first (map Byte (span c.args.s.now 0 c.literal_end-at.result) ∷ []) c.literals_size-size.ensures (k.literals 0 c.literal_end-at.result c.literal_end-at.ensures),
)

pub literals_size-requires : goal.literals_size-requires
literals_size-requires g c =
    let a = c.requires.ahead c.loop-at.at c.next-from.result (omega arith) (omega arith) c.next-from.ensures in
    omega (arith, c.literal_end-at-in-loop-at.ensures, run_inside ordinary c.args.s.now c.next-from.result a.1)

pub loop-at-smaller : goal.loop-at-smaller
loop-at-smaller g c =
    let a = c.requires.ahead c.loop-at.at c.next-from.result (omega arith) (omega arith) c.next-from.ensures in
    omega (arith, c.literal_end-at-in-loop-at.ensures, a.0)

pub loop-at-preserved : goal.loop-at-preserved
loop-at-preserved g c = (
  (let a = c.requires.ahead c.loop-at.at c.next-from.result (omega arith) (omega arith) c.next-from.ensures in
      omega (arith, c.literal_end-at-in-loop-at.ensures, run_inside ordinary c.args.s.now c.next-from.result a.1)),
  λ left k. passed-two (c.loop-at.invariant.1 left k) refl c.literals_size.ensures c.times.ensures c.times-size.ensures
      (k.other c.loop-at.at c.next-from.result c.one-z.result (omega arith) (omega arith) c.next-from.ensures c.one-z.ensures)
      (k.literals c.next-from.result c.literal_end-at-in-loop-at.result c.literal_end-at-in-loop-at.ensures),
)

pub returns : goal.returns
returns g c left k = passed-all (c.loop-at.invariant.1 left k) (k.nothing c.loop-at.at (omega arith))
