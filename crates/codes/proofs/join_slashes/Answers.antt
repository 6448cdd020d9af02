use borrow.Author.Rules.{rules}
use mathlib.Core.Path.{◌≡◌, refl, sym, ap, ◌∙◌}
use mathlib.Core.Bool.{◌&&◌}
use mathlib.Core.List.{List, ◌∷◌, ◌++◌}
use Prim.Native.Nat.{ℕ, ◌+◌, ◌≤◌}
use native.Mathlib.Omega.{arith}
use lib.ListN.{length, get_or, take, drop}
use lib.ListN.{length-set}
use lib.Dec.{eqb}
use Rattle.pattern.specs.Codes.{joined_codes_after}
use Rattle.codes.proofs.Laws.{next-code, join-turn, kept-from, kept-le, same-behind, same_code, join-end}
use Rattle.codes.proofs.join_slashes.Goals as goal

pub loop-i-init : goal.loop-i-init
loop-i-init c = (search rules, refl, refl, refl)

pub bounds-codes-i : goal.bounds-codes-i
bounds-codes-i c = omega (arith, c.least-n.ensures, c.loop-i.invariant.1)

pub bounds-codes-at : goal.bounds-codes-at
bounds-codes-at c = omega (arith, c.least-n.ensures, c.loop-i.invariant.1)

pub overflow_add-at : goal.overflow_add-at
overflow_add-at c = omega (arith, kept-le (c.loop-i.after && eqb (get_or c.loop-i.codes c.loop-i.i 0) 47) c.from-at.result (c.from-at.ensures ∙ kept-from _), c.least-n.ensures)

pub loop-i-preserved : goal.loop-i-preserved
loop-i-preserved c =
    let b = get_or c.loop-i.codes c.loop-i.i 0 in
    let k : c.least-n.result ≤ length c.args.codes.now = omega (arith, c.least-n.ensures) in
    let same : b ≡ get_or c.args.codes.now c.loop-i.i 0 = same_code c.loop-i.codes c.args.codes.now c.loop-i.i (omega (arith, c.loop-i.invariant.1)) (omega arith) c.loop-i.invariant.2 in (
      omega (arith, kept-le (c.loop-i.after && eqb b 47) c.from-at.result (c.from-at.ensures ∙ kept-from _)),
      simp length-set c.loop-i.invariant.1,
      same-behind c.loop-i.codes c.args.codes.now c.loop-i.i c.loop-i.at b c.loop-i.invariant.0 c.loop-i.invariant.2,
      join-turn c.loop-i.codes (drop (c.loop-i.i + 1) (take c.least-n.result c.args.codes.now)) b c.loop-i.at c.from-at.result c.loop-i.after (omega (arith, c.loop-i.invariant.1)) (c.from-at.ensures ∙ kept-from _)
          ∙ ap (λ (s : List ℕ). take c.loop-i.at c.loop-i.codes ++ joined_codes_after c.loop-i.after s)
          (ap (λ (x : ℕ). x ∷ drop (c.loop-i.i + 1) (take c.least-n.result c.args.codes.now)) same ∙ sym (next-code c.args.codes.now c.least-n.result c.loop-i.i (omega arith) k))
          ∙ c.loop-i.invariant.3,
    )

pub shape_of-codes : goal.shape_of-codes
shape_of-codes c = c.loop-i.invariant.1

pub returns : goal.returns
returns c =
    let e : c.loop-i.i ≡ c.least-n.result = omega arith in
    join-end c.args.count c.least-n.result c.loop-i.at c.args.codes.now c.loop-i.codes c.args.slash c.loop-i.after c.least-n.ensures (omega arith) c.loop-i.invariant.1
    (rw e at c.loop-i.invariant.2) (rw e at c.loop-i.invariant.3)
