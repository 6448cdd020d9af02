use borrow.Author.Rules.{rules}
use native.Mathlib.Omega.{arith}
use mathlib.Core.Path.{refl, sym, ap, ◌∙◌}
use Prim.Native.Nat.{ℕ, ◌≤◌, min}
use mathlib.Core.List.{List, map}
use lib.ListN.{length, drop}
use Rattle.scan.specs.Bytes.{span}
use Rattle.scan.proofs.Laws.{run_inside}
use Rattle.pattern.specs.Pieces.{Byte}
use Rattle.pattern.specs.Literals.{ordinary}
use Rattle.pattern.specs.Items.{items}
use Rattle.pattern.specs.Places.{item_at}
use Rattle.pattern.specs.Reads.{seen_item}
use Rattle.pattern.specs.Expansions.{of_items}
use Rattle.pattern.proofs.Laws.{item_end-le, item_end-more}
use Rattle.sizes.specs.Numbered.{numbering, name_by, item_by, high_of}
use Rattle.sizes.proofs.Steps.{items-next, items-last}
use Rattle.codes.specs.Held.{held_pieces}
use Rattle.expand.proofs.Laws.{writing-none, writing-turn, writing_more, writing-all, wrote_then, items-behind, held_more, drafted-gone, drafted-all, drafted-none}
use Rattle.expand.proofs.write_pattern.Goals as goal

pub returns-then-text-gt65535 : goal.returns-then-text-gt65535
returns-then-text-gt65535 c = drafted-none c.args.text.now c.args.slash c.args.path.now c.args.out.now _ (omega (arith, c.if-text-gt65535.true))

pub loop-at-init : goal.loop-at-init
unfolding held_pieces
loop-at-init c = (rw c.span-s.ensures (writing-none (omega arith)), refl, refl)

pub push_run-w-requires : goal.push_run-w-requires
push_run-w-requires c = omega (arith, c.write_item-w.ensures.size, c.write_item-w.ensures.fits)

pub slice_bounds-push_run-end : goal.slice_bounds-push_run-end
slice_bounds-push_run-end c =
    let h : c.item_end-next.result ≤ length c.span-s.result.now = omega (arith, c.item_end-next.ensures, item_end-le c.span-s.result.now c.loop-at.at) in
    omega (arith, c.literal_end-at.ensures, run_inside ordinary c.span-s.result.now c.item_end-next.result h)

pub returns-then-held : goal.returns-then-held
returns-then-held c =
    let names = name_by c.args.text.now c.args.vars.now c.args.sizes.now (min 32 c.args.n) in
    let i = seen_item c.args.text.now c.item_at-i.result in
    let q = high_of c.loop-at.left c.item_size-size.result.count in
    drafted-gone c.args.text.now c.args.slash c.args.path.now {r = c.push_run-w.result} (omega (arith, c.if-text-gt65535.false))
    (writing_more (map Byte (span c.span-s.result.now c.item_end-next.result c.literal_end-at.result))
    (writing-turn {q = q} _ (item_by c.args.text.now c.args.vars.now c.args.n c.args.sizes.now i) (of_items numbering names (items 0 (drop c.item_end-next.result c.span-s.result.now))) c.loop-at.invariant.0
    (items-next numbering names c.span-s.result.now c.loop-at.at i c.item_end-next.result c.loop-at-test.true (c.item_at-i.ensures ∙ ap (λ (l : List ℕ). item_at l c.loop-at.at) (sym c.span-s.ensures)) c.item_end-next.ensures)
    c.item_size-size.ensures c.low.ensures refl (rw c.item_at-i.ensures c.write_item-w.ensures))
    (items-behind names q c.span-s.result.now c.item_end-next.result c.literal_end-at.result c.literal_end-at.ensures) (c.push_run-w.ensures c.args.text.now))
    (held_more c.args.text.now c.args.slash c.args.path.now (omega (arith, c.loop-at.invariant.0.wrote.size, c.loop-at.invariant.0.wrote.fits)) (wrote_then c.args.text.now c.write_item-w.ensures (c.push_run-w.ensures c.args.text.now)) c.loop-at.invariant.1 (c.hold-held.ensures c.args.text.now))
    c.if-held.true

pub loop-at-smaller : goal.loop-at-smaller
loop-at-smaller c =
    let h : c.item_end-next.result ≤ length c.span-s.result.now = omega (arith, c.item_end-next.ensures, item_end-le c.span-s.result.now c.loop-at.at) in
    omega (arith, c.literal_end-at.ensures, run_inside ordinary c.span-s.result.now c.item_end-next.result h, c.item_end-next.ensures, item_end-more c.span-s.result.now c.loop-at.at c.loop-at-test.true)

pub loop-at-preserved : goal.loop-at-preserved
loop-at-preserved c =
    let names = name_by c.args.text.now c.args.vars.now c.args.sizes.now (min 32 c.args.n) in
    let i = seen_item c.args.text.now c.item_at-i.result in (
      writing_more (map Byte (span c.span-s.result.now c.item_end-next.result c.literal_end-at.result))
          (writing-turn _ (item_by c.args.text.now c.args.vars.now c.args.n c.args.sizes.now i) (of_items numbering names (items 0 (drop c.item_end-next.result c.span-s.result.now))) c.loop-at.invariant.0
          (items-next numbering names c.span-s.result.now c.loop-at.at i c.item_end-next.result c.loop-at-test.true (c.item_at-i.ensures ∙ ap (λ (l : List ℕ). item_at l c.loop-at.at) (sym c.span-s.ensures)) c.item_end-next.ensures)
          c.item_size-size.ensures c.low.ensures c.high-left.ensures (rw c.item_at-i.ensures c.write_item-w.ensures))
          (items-behind names c.high-left.result c.span-s.result.now c.item_end-next.result c.literal_end-at.result c.literal_end-at.ensures) (c.push_run-w.ensures c.args.text.now),
      held_more c.args.text.now c.args.slash c.args.path.now (omega (arith, c.loop-at.invariant.0.wrote.size, c.loop-at.invariant.0.wrote.fits)) (wrote_then c.args.text.now c.write_item-w.ensures (c.push_run-w.ensures c.args.text.now)) c.loop-at.invariant.1 (c.hold-held.ensures c.args.text.now),
      c.if-held.false,
    )

pub returns : goal.returns
returns c =
    let names = name_by c.args.text.now c.args.vars.now c.args.sizes.now (min 32 c.args.n) in
    drafted-all c.args.text.now c.args.slash c.args.path.now (omega (arith, c.if-text-gt65535.false))
    (writing-all _ c.loop-at.invariant.0 (items-last numbering names c.span-s.result.now c.loop-at.at (search rules)))
    c.loop-at.invariant.1 c.loop-at.invariant.2
