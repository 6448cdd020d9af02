use mathlib.Core.Path.{◌≡◌, sym, ap, ◌∙◌}
use Rattle.scan.specs.Bytes.{span}
use Rattle.pattern.specs.Items.{Single}
use Rattle.pattern.specs.Places.{item_at}
use Rattle.pattern.specs.Reads.{seen_part}
use Rattle.expand.proofs.Laws.{item-read, item-single}
use Rattle.expand.proofs.write_item.Goals as goal

pub returns-in-Single : goal.returns-in-Single
returns-in-Single c =
    let s = span c.args.text.now c.args.a c.args.e in
    let read = item-read c.args.text.now s c.args.at c.args.i _ c.requires.1 c.in-Single.is in
    let e : item_at s c.args.at ≡ Single (seen_part c.args.text.now c.part_at-p.result) = item-single s c.args.at _ read ∙ ap Single (sym c.part_at-p.ensures.is) in
    rw e c.write_part.ensures
