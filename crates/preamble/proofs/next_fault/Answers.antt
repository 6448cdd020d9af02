use borrow.Author.Tests.{lt-ltb}
use native.Mathlib.Omega.{arith}
use mathlib.Core.Path.{sym, ◌∙◌}
use Rattle.preamble.proofs.Laws.{fault-free, fault-full-empty, fault-full}
use Rattle.preamble.proofs.next_fault.Goals as goal

pub returns-then-value_count-lt16 : goal.returns-then-value_count-lt16
returns-then-value_count-lt16 c = λ h. c.value_fault.ensures ∙ sym (fault-free _ _ (omega (arith, rw (lt-ltb _ _ h) at c.value_count.ensures)))

pub returns-then-span-eq0 : goal.returns-then-span-eq0
returns-then-span-eq0 c = λ h. sym (fault-full-empty _ _ (omega (arith, rw (lt-ltb _ _ h) at c.value_count.ensures)) (rw (← c.span.ensures) c.if-span-eq0.true))

pub returns : goal.returns
returns c = λ h. sym (fault-full _ _ (omega (arith, rw (lt-ltb _ _ h) at c.value_count.ensures)) (rw (← c.span.ensures) c.if-span-eq0.false))
