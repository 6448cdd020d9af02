use mathlib.Core.Path.{refl, sym, ap, ◌∙◌}
use mathlib.Core.Bool.{◌||◌}
use native.Mathlib.Omega.{arith}
use Rattle.perms.specs.Sets.{has, perms}
use Rattle.perms.proofs.Laws.{or-unite, set-lt}
use Rattle.perms_word.proofs.Words.{carried-more, carried-end}
use Rattle.perms_word.proofs.set_of.Goals as goal

pub loop-b-init : goal.loop-b-init
loop-b-init c = (omega arith, (omega arith, refl))

pub loop-b-preserved : goal.loop-b-preserved
loop-b-preserved c = (
  omega arith,
  (
    rw c.union-set.ensures (set-lt 8 (λ k. has c.loop-b.set.0 k || has c.permission_of.result.0 k)),
    rw (c.union-set.ensures ∙ or-unite c.loop-b.set c.permission_of.result c.loop-b.invariant.1.0 (omega arith), c.permission_of.ensures) (carried-more c.loop-b.set.0 c.args.word.now c.loop-b.b-index (omega arith) ∙ c.loop-b.invariant.1.1),
  ),
)

pub returns : goal.returns
returns c = ap perms (sym (carried-end c.loop-b.set.0 c.args.word.now c.loop-b.b-index (omega arith)) ∙ c.loop-b.invariant.1.1)
