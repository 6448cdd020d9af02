use mathlib.Core.Path.{◌≡◌, sym, ap, ◌∙◌}
use Prim.Native.Nat.{ℕ, ◌+◌}
use mathlib.Core.List.{List}
use Rattle.scan.specs.Bytes.{span}
use Rattle.pattern.specs.Items.{Single, Among, alternatives}
use Rattle.pattern.specs.Places.{part_at, item_at}
use Rattle.pattern.proofs.Laws.{item_at-single, item_at-among, item_at-open, among-read}
use Rattle.parts.proofs.item_at.Goals as goal

pub returns-then-s-i-ne123 : goal.returns-then-s-i-ne123
returns-then-s-i-ne123 c =
    let q : item_at (span c.args.text.now c.args.a c.args.e) c.args.i ≡ Single (part_at (span c.args.text.now c.args.a c.args.e) c.args.i) = rw (← c.span-s.ensures) (item_at-single c.span-s.result.now c.args.i c.if-s-i.false c.if-s-i-ne123.true) in ap Single c.part_at.ensures.is ∙ sym q

pub returns-then-j-s : goal.returns-then-j-s
returns-then-j-s c =
    let q : item_at (span c.args.text.now c.args.a c.args.e) c.args.i ≡ Among (alternatives (span c.span-s.result.now (c.args.i + 1) c.seek-j.result)) = rw (← c.span-s.ensures) (item_at-among c.span-s.result.now c.args.i c.seek-j.result c.if-s-i.false c.if-s-i-ne123.false c.seek-j.ensures c.if-j-s.true) in ap (λ (l : List ℕ). Among (alternatives l)) (among-read c.args.text.now c.span-s.result.now c.args.a c.args.e c.args.i c.seek-j.result c.span-s.ensures c.if-j-s.true) ∙ sym q

pub returns : goal.returns
returns c =
    let q : item_at (span c.args.text.now c.args.a c.args.e) c.args.i ≡ Single (part_at (span c.args.text.now c.args.a c.args.e) c.args.i) = rw (← c.span-s.ensures) (item_at-open c.span-s.result.now c.args.i c.seek-j.result c.if-s-i.false c.if-s-i-ne123.false c.seek-j.ensures c.if-j-s.false) in ap Single c.part_at-2.ensures.is ∙ sym q
