use borrow.Author.Tests.{lt-ltb, le-ltb}
use mathlib.Core.Path.{ap, ◌∙◌}
use Prim.Native.Nat.{min}
use Rattle.variables.proofs.value_count.Goals as goal

pub returns-then-w-lt32 : goal.returns-then-w-lt32
returns-then-w-lt32 c = rw (lt-ltb _ _ c.if-w-lt32.true) (c.least.ensures ∙ ap (min 16) c.cell.ensures)

pub returns-else-w-lt32 : goal.returns-else-w-lt32
returns-else-w-lt32 c = rw (le-ltb _ _ c.if-w-lt32.false)
