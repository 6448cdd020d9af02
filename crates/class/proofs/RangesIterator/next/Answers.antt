use native.Mathlib.Omega.{arith}
use mathlib.Core.Path.{◌≡◌, sym, ap, ◌∙◌}
use mathlib.Core.List.{[], ◌∷◌}
use lib.ListN.{length, get_or}
use Rattle.std.proofs.Common.{rules, tests}
use Rattle.scan.proofs.Laws.{no_length, span_rest}
use Rattle.class.specs.Class.{ranges}
use Rattle.class.specs.Members.{range, left}
use Rattle.class.proofs.Laws.{ranges-pair, ranges-one}
use Rattle.class.proofs.RangesIterator.next.Goals as goal
use Rattle.class.proofs.RangesIterator.next.Goals.{then-self-lt3, else-self-lt3+in_default-1}

pub returns-in-45-clause-steps : goal.returns-in-45-clause-steps
returns-in-45-clause-steps c =
    let s = c.args.self.now.left.now in
    ranges-pair s (omega arith) (omega arith) ∙ ap (λ l. range (get_or s 0 0, get_or s 2 0) ∷ ranges 0 l) (sym (span_rest s 3))

pub returns-in-45-clause-goes : goal.returns-in-45-clause-goes
returns-in-45-clause-goes c = let shorter = ap length (returns-in-45-clause-steps c) in search rules

pub returns-in_err-low-clause-steps : goal.returns-in_err-low-clause-steps
unfolding ranges
returns-in_err-low-clause-steps c = let none : left c.args.self.now ≡ [] = ap (ranges 0) (no_length _ c.in_err-low.ensures.cases) in rw c.from_residual.ensures (none, none)

pub returns-clause-steps : goal.returns-clause-steps
returns-clause-steps c =
    elim c.if-self-lt3.branch [
      | then-self-lt3 w ↦ ranges-one c.args.self.now.left.now _ _ c.in_ok-low.ensures.cases.0 (λ h e. grind arith)
      | else-self-lt3+in_default-1 w ↦ ranges-one c.args.self.now.left.now _ _ c.in_ok-low.ensures.cases.0 (λ h e. search (rules, tests))
    ]

pub returns-clause-goes : goal.returns-clause-goes
returns-clause-goes c = let shorter = ap length (returns-clause-steps c) in search rules
