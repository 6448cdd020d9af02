use mathlib.Core.Path.{ap, ◌∙◌}
use mathlib.Core.List.{List}
use mathlib.Core.Bool.{true, false}
use Prim.Native.Nat.{ℕ}
use native.Mathlib.Omega.{arith}
use Rattle.std.proofs.Common.{rules, tests}
use Rattle.scan.proofs.Laws.{span_rest}
use Rattle.direct.specs.Direct.{star_of}
use Rattle.direct.proofs.Turns.{rest-ends, rest-open, rest-stars, rest-star}
use Rattle.direct.proofs.rest.Goals as goal

pub returns-then-is_empty : goal.returns-then-is_empty
returns-then-is_empty c = rw c.if-is_empty.true at (rest-ends c.args.s.now c.args.path.now (omega arith) c.is_empty.result c.is_empty.ensures)

pub returns-else-is_empty : goal.returns-else-is_empty
returns-else-is_empty c = rw c.if-is_empty.false at (rest-ends c.args.s.now c.args.path.now (omega arith) c.is_empty.result c.is_empty.ensures)

pub returns-in-42 : goal.returns-in-42
returns-in-42 c = c.star.ensures ∙ ap (λ (l : List ℕ). star_of true l c.args.path.now) (span_rest c.args.s.now 2) ∙ rest-stars c.args.s.now c.args.path.now (omega arith) (omega arith) (omega arith) (omega arith)

pub returns-in-42-2 : goal.returns-in-42-2
returns-in-42-2 c =
    c.star-in-42-2.ensures ∙ ap (λ (l : List ℕ). star_of false l c.args.path.now) (span_rest c.args.s.now 1)
    ∙ rest-star c.args.s.now c.args.path.now (search (rules, tests)) (search (rules, tests)) (λ h e. grind arith)

pub returns-in_default : goal.returns-in_default
returns-in_default c = rest-open c.args.s.now c.args.path.now (omega arith) (λ e. omega arith)

pub returns-in_default-2 : goal.returns-in_default-2
returns-in_default-2 c = rest-open c.args.s.now c.args.path.now (omega arith) (λ e. omega arith)
