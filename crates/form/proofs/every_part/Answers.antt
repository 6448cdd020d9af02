use native.Mathlib.Omega.{arith}
use mathlib.Core.Path.{refl, sym}
use Rattle.std.proofs.Common.{rules}
use Rattle.pattern.specs.Places.{part_at}
use Rattle.pattern.proofs.Laws.{part_end-more}
use Rattle.form.proofs.Laws.{parts-literals, parts_more, parts-stop, parts_all}
use Rattle.form.proofs.every_part.Goals as goal

pub loop-i-init : goal.loop-i-init
loop-i-init g c p literal told = sym (parts-literals p literal c.args.s.now 0 c.literal_end-i.result c.literal_end-i.ensures)

pub returns-then-not-good : goal.returns-then-not-good
returns-then-not-good g c p literal told =
    parts-stop p literal c.args.s.now c.args.s.now refl c.loop-i.i (part_at c.args.s.now c.loop-i.i) refl {y = c.good.result} (told c.loop-i.i c.good.result (omega arith) c.good.ensures)
    (omega arith) (c.loop-i.invariant p literal told) (search rules)

pub loop-i-smaller : goal.loop-i-smaller
loop-i-smaller g c = omega (arith, c.literal_end-i-in-loop-i.ensures, c.part_end.ensures, part_end-more c.args.s.now c.loop-i.i (omega arith))

pub loop-i-preserved : goal.loop-i-preserved
loop-i-preserved g c p literal told =
    parts_more p literal c.args.s.now c.args.s.now refl c.loop-i.i (part_at c.args.s.now c.loop-i.i) refl {y = c.good.result} (told c.loop-i.i c.good.result (omega arith) c.good.ensures)
    (omega arith) (c.loop-i.invariant p literal told) (search rules) c.part_end.ensures c.literal_end-i-in-loop-i.ensures

pub returns : goal.returns
returns g c p literal told = parts_all p literal c.args.s.now c.loop-i.i (omega arith) (c.loop-i.invariant p literal told)
