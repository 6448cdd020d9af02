use native.Mathlib.Omega.{arith}
use Prim.Native.Nat.{ℕ, ◌+◌, ◌-◌, ◌<◌, ◌≤◌}
use mathlib.Core.Path.{◌≡◌}
use mathlib.Core.Bool.{Bool, not}
use mathlib.Core.List.{List}
use lib.Dec.{eqb}
use lib.ListN.{length, drop, length-drop}
use borrow.Author.Tests.{lt-ltb, le-ltb}
use Rattle.std.proofs.Common.{rules, tests}
use Rattle.scan.specs.Bytes.{run}
use Rattle.pattern.specs.Pieces.{up_to}
use Rattle.ends.proofs.up_to.Goals as goal

abbrev other : ℕ → ℕ → Bool
other c b = not (eqb b c)

module _ (c : ℕ) (s : List ℕ) (at end : ℕ) (e : end ≡ at + run (other c) (drop at s)) where
  found : end < length s → end - at + 1 ≡ up_to c (drop at s)
  unfolding up_to
  found h = rw (lt-ltb (run (other c) (drop at s)) (length (drop at s)) (omega (arith, length-drop at s)), up_to) (omega arith)

  none : length s ≤ end → 0 ≡ up_to c (drop at s)
  unfolding up_to
  none h = rw (le-ltb (run (other c) (drop at s)) (length (drop at s)) (omega (arith, length-drop at s)), up_to)

pub overflow_sub-result : goal.overflow_sub-result
overflow_sub-result c = omega (arith, c.end_of-end.ensures (other c.args.c) (λ b r h g. search (rules, tests)))

pub returns-then-end-s : goal.returns-then-end-s
returns-then-end-s c = found _ _ _ _ (c.end_of-end.ensures (other c.args.c) (λ b r h g. search (rules, tests))) c.if-end-s.true

pub returns : goal.returns
returns c = none _ _ _ _ (c.end_of-end.ensures (other c.args.c) (λ b r h g. search (rules, tests))) c.if-end-s.false
