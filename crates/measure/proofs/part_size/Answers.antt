use native.Mathlib.Omega.{arith}
use Prim.Native.Nat.{min}
use Rattle.pattern.proofs.Laws.{number-le}
use Rattle.scan.specs.Bytes.{span}
use Rattle.sizes.proofs.Loops.{name-size}
use Rattle.measure.proofs.part_size.Goals as goal

pub size_at-requires : goal.size_at-requires
size_at-requires c = omega (arith, c.named-r.ensures, number-le c.args.text.now c.args.vars.now (span c.args.text.now c.in-Use.start c.in-Use.end) (min 32 c.args.n))

pub returns-in-Use : goal.returns-in-Use
returns-in-Use c =
    rw c.in-Use.is
    (name-size c.args.text.now c.args.vars.now c.args.sizes.now (min 32 c.args.n) (span c.args.text.now c.in-Use.start c.in-Use.end) c.size_at.ensures c.named-r.ensures)
