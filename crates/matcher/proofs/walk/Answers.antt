use mathlib.Core.Path.{◌≡◌, sym, ap, ap₂, ◌∙◌}
use mathlib.Core.List.{List, map}
use Prim.Native.Nat.{ℕ, ◌-◌}
use native.Mathlib.Omega.{arith}
use lib.ListN.{length, take, drop, length-drop}
use lib.Seq.{take_all}
use Rattle.pattern.specs.Codes.{decode}
use Rattle.matcher.specs.Match.{matches}
use Rattle.matcher.proofs.Front.{taken-le, taken-left, taken-dead, taken-done}
use Rattle.matcher.proofs.walk.Goals as goal

behind : (s : List ℕ) (k : ℕ) → take (length s - k) (drop k s) ≡ drop k s
behind s k = take_all (length s - k) (drop k s) (omega (arith, length-drop k s))

pub returns-then-not-repeats : goal.returns-then-not-repeats
returns-then-not-repeats c = sym (taken-dead c.args.text.now c.args.codes.now c.args.path.now (rw (← c.taken_front-n.ensures) c.if-n-codes.true) (rw (← c.taken_front-n.ensures) (sym (c.repeats.ensures c.args.text.now) ∙ c.if-not-repeats.true)))

pub slice_bounds-walk_back-count-then-n-codes : goal.slice_bounds-walk_back-count-then-n-codes
slice_bounds-walk_back-count-then-n-codes c = omega (arith, c.taken_front-n.ensures, (taken-le c.args.text.now c.args.codes.now c.args.path.now).1)

pub returns-then-n-codes : goal.returns-then-n-codes
returns-then-n-codes c =
    c.walk_back.ensures ∙ ap₂ matches (ap (map (decode c.args.text.now)) (behind c.args.codes.now c.taken_front-n.result)) (behind c.args.path.now c.taken_front-n.result)
    ∙ rw c.taken_front-n.ensures (sym (taken-left c.args.text.now c.args.codes.now c.args.path.now))

pub returns : goal.returns
returns c = rw c.taken_front-n.ensures (sym (taken-done c.args.text.now c.args.codes.now c.args.path.now (rw c.taken_front-n.ensures at c.if-n-codes.false)))

pub slice_bounds-walk_back-start-then-n-codes : goal.slice_bounds-walk_back-start-then-n-codes
slice_bounds-walk_back-start-then-n-codes c =
    omega (arith, c.taken_front-n.ensures, (taken-le c.args.text.now c.args.codes.now c.args.path.now).1)
