use mathlib.Core.Path.{sym, ap, ◌∙◌}
use Prim.Native.Nat.{ℕ, ◌+◌, ◌-◌, ◌*◌}
use native.Mathlib.Omega.{arith}
use native.Mathlib.Nat.{sub_self}
use lib.ListN.{get_or}
use Rattle.words.specs.Words.{word_of}
use Rattle.words.proofs.Turns.{word-down, word_room, word_more}
use Rattle.words.proofs.number.Goals as goal

pub loop-i-init : goal.loop-i-init
unfolding word_of
loop-i-init c = (omega arith, rw (sub_self c.args.n) (omega arith), rw (sub_self c.args.n))

pub overflow_mul-w : goal.overflow_mul-w
overflow_mul-w c = record { fits = omega (arith, word_room c.args.n c.loop-i.i c.loop-i.w (omega arith) c.loop-i.invariant.0 c.loop-i.invariant.1 c.requires.n_bound) }

pub overflow_add-w : goal.overflow_add-w
overflow_add-w c = record { fits = omega (arith, word_room c.args.n c.loop-i.i c.loop-i.w (omega arith) c.loop-i.invariant.0 c.loop-i.invariant.1 c.requires.n_bound, (c.type_inv.s (c.loop-i.i - 1)).fits) }

pub loop-i-preserved : goal.loop-i-preserved
loop-i-preserved c = (
  omega arith,
  word_more c.args.n c.loop-i.i c.loop-i.w (omega arith) c.loop-i.invariant.0 c.loop-i.invariant.1 (get_or c.args.s.now (c.loop-i.i - 1) 0) (omega (arith, (c.type_inv.s (c.loop-i.i - 1)).fits)),
  ap (λ (w : ℕ). w * 256 + get_or c.args.s.now (c.loop-i.i - 1) 0) c.loop-i.invariant.2 ∙ sym (word-down c.args.s.now c.args.n c.loop-i.i (omega arith) c.loop-i.invariant.0 (omega (arith, c.requires.n_in_bounds))),
)
