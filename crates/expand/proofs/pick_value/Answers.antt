use borrow.Author.Rules.{rules}
use mathlib.Core.Path.{ap, ap₂, ◌∙◌}
use mathlib.Core.List.{List}
use Prim.Native.Nat.{ℕ, ◌*◌, min}
use Rattle.scan.specs.Bytes.{span}
use Rattle.sizes.specs.Numbered.{name_by, value_by}
use Rattle.expand.proofs.Laws.{value-here, value_there, value-nowhere}
use Rattle.expand.proofs.pick_value.Goals as goal

pub returns-then-left-c : goal.returns-then-left-c
returns-then-left-c c =
    let names = name_by c.args.text.now c.args.vars.now c.args.sizes.now (min 32 c.args.w) in
    let places = ap₂ (span c.args.text.now) c.cell-start.ensures c.cell-end.ensures in
    ap (λ (s : List ℕ). (value_by c.args.text.now c.args.vars.now c.args.w c.args.sizes.now s).nth c.loop-k.left) places
    ∙ value-here names c.loop-k.left c.args.text.now c.args.vars.now c.least-m.result c.loop-k.k (16 * c.args.w) c.loop-k.invariant (search rules) (c.value_size-size.ensures ∙ ap (λ (s : List ℕ). (value_by c.args.text.now c.args.vars.now c.args.w c.args.sizes.now s).size) places) c.if-left-c.true

pub loop-k-preserved : goal.loop-k-preserved
loop-k-preserved c =
    let names = name_by c.args.text.now c.args.vars.now c.args.sizes.now (min 32 c.args.w) in
    let places = ap₂ (span c.args.text.now) c.cell-start.ensures c.cell-end.ensures in
    value_there names c.loop-k.left c.args.text.now c.args.vars.now c.least-m.result c.loop-k.k (16 * c.args.w) c.loop-k.invariant (search rules) (c.value_size-size.ensures ∙ ap (λ (s : List ℕ). (value_by c.args.text.now c.args.vars.now c.args.w c.args.sizes.now s).size) places) c.if-left-c.false

pub returns : goal.returns
returns c =
    let names = name_by c.args.text.now c.args.vars.now c.args.sizes.now (min 32 c.args.w) in
    value-nowhere names c.loop-k.left c.args.text.now c.args.vars.now c.least-m.result c.loop-k.k (16 * c.args.w) c.loop-k.invariant (search rules)
