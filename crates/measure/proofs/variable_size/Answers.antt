use native.Mathlib.Omega.{arith}
use mathlib.Core.Path.{refl, ap, ap₂, ◌∙◌}
use mathlib.Core.List.{List}
use Prim.Native.Nat.{ℕ, ◌+◌, ◌*◌, min}
use lib.ListN.{get_or}
use Rattle.scan.specs.Bytes.{span}
use Rattle.sizes.specs.Numbered.{name_by, value_by}
use Rattle.sizes.proofs.Loops.{values-first, values-more, values-all}
use Rattle.measure.proofs.variable_size.Goals as goal

pub loop-k-init : goal.loop-k-init
loop-k-init c = values-first (name_by c.args.text.now c.args.vars.now c.args.sizes.now (min 32 c.args.w)) c.args.text.now c.args.vars.now c.args.w (min 16 (get_or c.args.vars.now (64 + c.args.w) 0)) refl c.no_size-size.ensures

pub loop-k-preserved : goal.loop-k-preserved
loop-k-preserved c =
    values-more (name_by c.args.text.now c.args.vars.now c.args.sizes.now (min 32 c.args.w)) c.args.text.now c.args.vars.now (min 16 (get_or c.args.vars.now (64 + c.args.w) 0)) c.loop-k.k (16 * c.args.w) c.loop-k.invariant
    (omega (arith, c.least-m.ensures, c.cell.ensures))
    (c.value_size-one.ensures ∙ ap (λ (s : List ℕ). (value_by c.args.text.now c.args.vars.now c.args.w c.args.sizes.now s).size) (ap₂ (span c.args.text.now) c.cell-in-loop-k.ensures c.cell-in-loop-k-2.ensures))
    c.plus-size.ensures

pub returns : goal.returns
returns c =
    values-all (name_by c.args.text.now c.args.vars.now c.args.sizes.now (min 32 c.args.w)) c.args.text.now c.args.vars.now (min 16 (get_or c.args.vars.now (64 + c.args.w) 0)) c.loop-k.k (16 * c.args.w) c.loop-k.invariant
    (omega (arith, c.least-m.ensures, c.cell.ensures))
