use borrow.Author.Rules.{rules}
use native.Mathlib.Omega.{arith}
use mathlib.Core.Path.{◌≡◌, sym, ap, ◌∙◌}
use Prim.Native.Nat.{◌+◌, ◌≤◌, ℕ, min}
use mathlib.Core.List.{List, map}
use lib.ListN.{length, drop}
use borrow.Author.Tests.{lt-ltb}
use Rattle.scan.specs.Bytes.{span}
use Rattle.scan.proofs.Laws.{run_inside}
use Rattle.pattern.specs.Pieces.{Byte, parts}
use Rattle.pattern.specs.Literals.{ordinary}
use Rattle.pattern.specs.Places.{part_at}
use Rattle.pattern.specs.Reads.{code_of, seen_part}
use Rattle.pattern.specs.Expansions.{of_parts}
use Rattle.pattern.proofs.Laws.{part_end-le, part_end-more}
use Rattle.sizes.specs.Numbered.{numbering, name_by, part_by, value_by}
use Rattle.sizes.proofs.Steps.{parts_next, parts_last}
use Rattle.expand.proofs.Laws.{wrote-nil, writing-none, writing-turn, writing_more, writing-all, parts-behind, named-le, named_none, named_some}
use Rattle.expand.proofs.+write_part_write_value.Goals as goal

pub write_part-returns-then-r-eq0 : goal.write_part-returns-then-r-eq0
write_part-returns-then-r-eq0 t c =
    rw (named_none c.args.text.now c.args.vars.now c.args.n c.named-r.result c.in-Use.start c.in-Use.end c.named-r.ensures c.args.sizes.now c.args.d c.args.p c.in-Use.is c.if-r-eq0.true)
    (wrote-nil c.args.text.now c.args.out.now c.args.m c.requires.0.room)

pub write_part-pick_value-c-requires : goal.write_part-pick_value-c-requires
write_part-pick_value-c-requires t c =
    omega (arith, named-le c.args.text.now c.args.vars.now c.args.n c.named-r.result c.in-Use.start c.in-Use.end c.named-r.ensures)

pub write_part-write_value-requires : goal.write_part-write_value-requires
write_part-write_value-requires t c =
    (omega (arith, named-le c.args.text.now c.args.vars.now c.args.n c.named-r.result c.in-Use.start c.in-Use.end c.named-r.ensures), c.requires.0)

pub write_part-returns-in-Is : goal.write_part-returns-in-Is
write_part-returns-in-Is t c =
    let f : code_of c.in-Is.q ≤ 65536 + length c.args.text.now = rw c.in-Is.is at c.requires.1 in
    let g : code_of c.in-Is.q ≡ c.piece_code.result = sym (c.piece_code.ensures ∙ rw (lt-ltb (code_of c.in-Is.q) 4294967296 (omega (arith, c.requires.0.short)))) in
    rw (c.in-Is.is, g) (c.push.ensures c.args.text.now)

pub write_part-returns-else-r-eq0 : goal.write_part-returns-else-r-eq0
write_part-returns-else-r-eq0 t c =
    rw (named_some c.args.text.now c.args.vars.now c.args.n c.named-r.result c.in-Use.start c.in-Use.end c.named-r.ensures c.args.sizes.now c.args.d c.args.p c.in-Use.is (omega (arith, c.if-r-eq0.false)), ← c.pick_value-c.ensures)
    c.write_value.ensures

pub write_value-loop-at-init : goal.write_value-loop-at-init
write_value-loop-at-init t c = rw c.span-s.ensures (writing-none c.requires.room)

pub write_value-push_run-w-requires : goal.write_value-push_run-w-requires
write_value-push_run-w-requires t c = omega (arith, c.write_part-w.ensures.size, c.write_part-w.ensures.fits)

pub write_value-slice_bounds-push_run-end : goal.write_value-slice_bounds-push_run-end
write_value-slice_bounds-push_run-end t c =
    let s = c.span-s.result.now in
    let h : c.part_end-next.result ≤ length s = omega (arith, c.part_end-next.ensures, part_end-le s c.loop-at.at) in
    omega (arith, c.literal_end-at.ensures, run_inside ordinary s c.part_end-next.result h)

pub write_value-loop-at-smaller : goal.write_value-loop-at-smaller
write_value-loop-at-smaller t c =
    let s = c.span-s.result.now in
    let h : c.part_end-next.result ≤ length s = omega (arith, c.part_end-next.ensures, part_end-le s c.loop-at.at) in
    omega (arith, c.literal_end-at.ensures, run_inside ordinary s c.part_end-next.result h, c.part_end-next.ensures, part_end-more s c.loop-at.at c.loop-at-test.true)

pub write_value-loop-at-preserved : goal.write_value-loop-at-preserved
write_value-loop-at-preserved t c =
    let text = c.args.text.now in
    let s = c.span-s.result.now in
    let names = name_by text c.args.vars.now c.args.sizes.now (min 32 c.args.n) in
    let p = seen_part text c.part_at-p.result in
    writing_more (map Byte (span s c.part_end-next.result c.literal_end-at.result))
    (writing-turn {ends = (value_by text c.args.vars.now c.args.n c.args.sizes.now (span text c.args.a c.args.e)).nth c.args.d} _ (part_by text c.args.vars.now c.args.n c.args.sizes.now p) (of_parts numbering names (parts 0 (drop c.part_end-next.result s))) c.loop-at.invariant
    (parts_next numbering names s c.loop-at.at p c.part_end-next.result c.loop-at-test.true (c.part_at-p.ensures.is ∙ ap (λ (l : List ℕ). part_at l c.loop-at.at) (sym c.span-s.ensures)) c.part_end-next.ensures)
    c.part_size-size.ensures c.low.ensures c.high-left.ensures c.write_part-w.ensures)
    (parts-behind names c.high-left.result s c.part_end-next.result c.literal_end-at.result c.literal_end-at.ensures) (c.push_run-w.ensures text)

pub write_value-returns : goal.write_value-returns
write_value-returns t c =
    let names = name_by c.args.text.now c.args.vars.now c.args.sizes.now (min 32 c.args.n) in
    writing-all _ c.loop-at.invariant (parts_last numbering names c.span-s.result.now c.loop-at.at (search rules))
