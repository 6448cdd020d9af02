use borrow.Author.Rules.{rules}
use native.Mathlib.Omega.{arith}
use mathlib.Core.Path.{sym}
use lib.ListN.{length-set}
use Rattle.variables.proofs.Laws.{value_room, value-many, value-full}
use Rattle.variables.proofs.with_value.Goals as goal

pub bounds-cells-i-then-k-lt16 : goal.bounds-cells-i-then-k-lt16
bounds-cells-i-then-k-lt16 c = simp length-set (omega arith)

pub bounds-cells-w-then-k-lt16 : goal.bounds-cells-w-then-k-lt16
bounds-cells-w-then-k-lt16 c = simp length-set (omega arith)

pub returns-then-k-lt16 : goal.returns-then-k-lt16
returns-then-k-lt16 c = (search rules, sym (value_room _ _ _ _ c.if-w-lt32.true c.if-k-lt16.true))

pub returns-else-k-lt16 : goal.returns-else-k-lt16
returns-else-k-lt16 c = (search rules, sym (value-many _ _ _ _ c.if-w-lt32.true c.if-k-lt16.false))

pub returns-else-w-lt32 : goal.returns-else-w-lt32
returns-else-w-lt32 c = (search rules, sym (value-full _ _ _ _ c.if-w-lt32.false))
