use mathlib.Core.Path.{◌≡◌, sym, ap, ◌∙◌}
use mathlib.Core.List.{List}
use Prim.Native.Nat.{ℕ}
use native.Mathlib.Omega.{arith}
use lib.ListN.{length}
use borrow.Author.Tests.{ltb-false}
use Rattle.front.specs.Front.{lead_of}
use Rattle.front.proofs.Turns.{lead-first, lead-next, lead-differs, lead-short, lead-stops, lead-ends}
use Rattle.front.proofs.lead.Goals as goal

pub loop-i-init : goal.loop-i-init
loop-i-init c = lead-first c.span-pattern.result.now c.args.path.now c.args.slash ∙ ap (λ (s : List ℕ). lead_of c.args.slash s c.args.path.now) c.span-pattern.ensures

pub returns-then-not-plain : goal.returns-then-not-plain
returns-then-not-plain c = lead-stops c.span-pattern.result.now c.args.path.now c.loop-i.i c.loop-i.after (omega arith) (sym c.plain.ensures ∙ c.if-not-plain.true) ∙ c.loop-i.invariant

pub returns-in_err-next : goal.returns-in_err-next
returns-in_err-next c = c.from_residual.ensures ∙ lead-short c.span-pattern.result.now c.args.path.now c.loop-i.i c.loop-i.after (omega arith) (sym c.plain.ensures ∙ c.if-not-plain.false) (ltb-false c.loop-i.i (length c.args.path.now) (sym c.in_err-next.ensures.lookup.0)) ∙ c.loop-i.invariant

pub returns-then-next-b : goal.returns-then-next-b
returns-then-next-b c = lead-differs c.span-pattern.result.now c.args.path.now c.loop-i.i c.loop-i.after (omega arith) (sym c.plain.ensures ∙ c.if-not-plain.false) c.in_ok-next.ensures.lookup.3.0 (λ e. c.if-next-b.true (c.in_ok-next.ensures.lookup.3.1 0 ∙ e)) ∙ c.loop-i.invariant

pub loop-i-preserved : goal.loop-i-preserved
loop-i-preserved c = lead-next c.span-pattern.result.now c.args.path.now c.loop-i.i c.loop-i.after (omega arith) (sym c.plain.ensures ∙ c.if-not-plain.false) c.in_ok-next.ensures.lookup.3.0 (sym (c.in_ok-next.ensures.lookup.3.1 0) ∙ c.if-next-b.false) ∙ c.loop-i.invariant

pub returns : goal.returns
returns c =
    let n : c.loop-i.i ≡ length c.span-pattern.result.now = omega arith in
    rw (← n) (lead-ends c.span-pattern.result.now c.args.path.now c.loop-i.i c.loop-i.after (omega arith) ∙ c.loop-i.invariant)
