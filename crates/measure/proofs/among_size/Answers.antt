use borrow.Author.Rules.{rules}
use native.Mathlib.Omega.{arith}
use mathlib.Core.Path.{ap, ◌∙◌}
use Prim.Native.Nat.{ℕ, ◌≤◌, min}
use mathlib.Core.List.{List}
use lib.ListN.{length}
use Rattle.pattern.proofs.Laws.{seek-le}
use Rattle.sizes.specs.Numbered.{name_by, one_by}
use Rattle.pattern.specs.Items.{alternatives}
use Rattle.sizes.proofs.Loops.{one-first, alternative-more, alternative-all, span-most}
use Rattle.measure.proofs.among_size.Goals as goal

pub loop-s-init : goal.loop-s-init
loop-s-init c = (omega arith, one-first _ c.no_size-size.ensures _)

pub overflow_add-a-in-loop-s : goal.overflow_add-a-in-loop-s
overflow_add-a-in-loop-s c = omega (arith, span-most c.args.text.now c.args.a c.args.e c.seek-j.result (rw (← c.span-s.ensures) (omega (arith, c.seek-j.ensures, seek-le 44 c.span-s.result.now c.loop-s.i c.loop-s.invariant.0))))

pub returns-then-s-j : goal.returns-then-s-j
returns-then-s-j c =
    let j : c.seek-j.result ≤ length c.span-s.result.now = omega (arith, c.seek-j.ensures, seek-le 44 c.span-s.result.now c.loop-s.i c.loop-s.invariant.0) in
    alternative-all (name_by c.args.text.now c.args.vars.now c.args.sizes.now (min 32 c.args.n)) c.args.text.now c.args.a c.args.e c.span-s.result.now c.span-s.ensures c.loop-s.i c.seek-j.result c.seek-j.ensures j c.loop-s.invariant.1 c.value_size.ensures c.plus-size.ensures (search rules)
    ∙ ap (λ (l : List ℕ). (one_by c.args.text.now c.args.vars.now c.args.n c.args.sizes.now (alternatives l)).size) c.span-s.ensures

pub loop-s-preserved : goal.loop-s-preserved
loop-s-preserved c =
    let j : c.seek-j.result ≤ length c.span-s.result.now = omega (arith, c.seek-j.ensures, seek-le 44 c.span-s.result.now c.loop-s.i c.loop-s.invariant.0) in (
      omega arith,
      alternative-more (name_by c.args.text.now c.args.vars.now c.args.sizes.now (min 32 c.args.n)) c.args.text.now c.args.a c.args.e c.span-s.result.now c.span-s.ensures c.loop-s.i c.seek-j.result c.seek-j.ensures j c.loop-s.invariant.1 c.value_size.ensures c.plus-size.ensures (search rules),
    )
