use native.Mathlib.Omega.{arith}
use mathlib.Core.Path.{sym, ap, ◌∙◌}
use Rattle.std.proofs.Common.{rules, tests}
use Rattle.scan.specs.Bytes.{between, some}
use Rattle.scan.proofs.Laws.{span_rest}
use Rattle.class.specs.Class.{Range, ranges}
use Rattle.class.proofs.Laws.{pair-holds, pair-passed, one-holds, one-passed, held-none}
use Rattle.class.proofs.is_listed.Goals as goal
use Rattle.class.proofs.is_listed.Goals.{in_default-left-via-then-left-lt3, in_default-left-via-else-left-lt3+in_default-1}

pub returns-then-is_between : goal.returns-then-is_between
returns-then-is_between c = sym (pair-holds c.args.b c.loop-left.left.now (omega arith) (omega arith) (search (rules, tests))) ∙ c.loop-left.invariant

pub loop-left-preserved-in-45-1 : goal.loop-left-preserved-in-45-1
loop-left-preserved-in-45-1 c =
    ap (λ l. some (λ (r : Range). between r.low r.high c.args.b) (ranges 0 l)) (span_rest c.loop-left.left.now 3)
    ∙ sym (pair-passed c.args.b c.loop-left.left.now (omega arith) (omega arith) (search (rules, tests)))
    ∙ c.loop-left.invariant

pub returns-then-is_between-2 : goal.returns-then-is_between-2
returns-then-is_between-2 c = sym (one-holds c.args.b c.loop-left.left.now (omega arith) (λ h e. elim c.in_default-left.branch [ in_default-left-via-then-left-lt3 w ↦ grind arith | in_default-left-via-else-left-lt3+in_default-1 w ↦ search (rules, tests) ]) (search (rules, tests))) ∙ c.loop-left.invariant

pub loop-left-preserved : goal.loop-left-preserved
loop-left-preserved c =
    ap (λ l. some (λ (r : Range). between r.low r.high c.args.b) (ranges 0 l)) (span_rest c.loop-left.left.now 1)
    ∙ sym (one-passed c.args.b c.loop-left.left.now (omega arith) (λ h e. elim c.in_default-left.branch [ in_default-left-via-then-left-lt3 w ↦ grind arith | in_default-left-via-else-left-lt3+in_default-1 w ↦ search (rules, tests) ]) (search (rules, tests)))
    ∙ c.loop-left.invariant

pub returns : goal.returns
returns c = sym (held-none c.args.b c.loop-left.left.now (omega arith)) ∙ c.loop-left.invariant
