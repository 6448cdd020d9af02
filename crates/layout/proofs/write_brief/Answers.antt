use Prim.Native.Nat.{ℕ}
use Rattle.scan.specs.Bytes.{span}
use Rattle.text.specs.declared.Refusal.{Refusal}
use Rattle.layout.specs.Layout.{head_by}
use Rattle.layout.proofs.Laws.{brief-short, laid-brief}
use lib.ListN.{length}
use mathlib.Core.List.{List}
use mathlib.Core.Path.{ap, ap₂, ◌∙◌}
use Rattle.layout.proofs.write_brief.Goals as goal

pub lay-requires : goal.lay-requires
lay-requires c = (c.head_of-head.ensures.value, brief-short c.span.result.now c.span-name.result.now c.span-name.ensures)

pub returns-clause-written : goal.returns-clause-written
returns-clause-written c =
    let e = c.head_of-head.ensures.same ∙ ap₂ (λ (w : Refusal) (n : ℕ). head_by w c.args.b.granted c.args.b.recorded n (length c.span-name.result.now)) c.refusal_of.ensures c.number.ensures in
    rw (← laid-brief c.args.text.now c.args.b c.head_of-head.result c.span-name.result.now e (c.span-name.ensures ∙ ap (λ (s : List ℕ). span s 0 255) c.span.ensures)) c.lay.ensures.written
