use mathlib.Core.Path.{ap, ◌∙◌}
use mathlib.Core.List.{List}
use mathlib.Core.Bool.{false}
use Prim.Native.Nat.{ℕ}
use native.Mathlib.Omega.{arith}
use Rattle.front.specs.Front.{lead_of}
use Rattle.front.proofs.Far.{far_within, far-fits, far-differs}
use Rattle.front.proofs.lead_far.Goals as goal

pub returns-in_err-l : goal.returns-in_err-l
returns-in_err-l c = c.from_residual.ensures ∙ far-differs c.span-pattern.result.now c.args.path.now c.passed-k.result c.passed-k.ensures.within c.passed-k.ensures.by_index c.slash_before.ensures c.span.ensures c.lead.ensures c.in_err-l.was ∙ ap (λ (p : List ℕ). lead_of false p c.args.path.now) c.span-pattern.ensures

pub overflow_add-result : goal.overflow_add-result
overflow_add-result c = omega (arith, far_within c.span-pattern.result.now c.args.path.now c.passed-k.result c.passed-k.ensures.within c.passed-k.ensures.by_index c.slash_before.ensures c.span.ensures c.lead.ensures c.in_ok-l.was)

pub returns : goal.returns
returns c = far-fits c.span-pattern.result.now c.args.path.now c.passed-k.result c.passed-k.ensures.within c.passed-k.ensures.by_index c.slash_before.ensures c.span.ensures c.lead.ensures c.in_ok-l.was ∙ ap (λ (p : List ℕ). lead_of false p c.args.path.now) c.span-pattern.ensures
