use borrow.Author.Rules.{rules}
use native.Mathlib.Omega.{arith}
use mathlib.Core.Path.{sym}
use lib.ListN.{length-set}
use Rattle.variables.proofs.Laws.{name-room, name-full}
use Rattle.variables.proofs.with_name.Goals as goal

pub returns-then-w-gt31 : goal.returns-then-w-gt31
returns-then-w-gt31 c = (search rules, sym (name-full _ _ _ _ (omega arith)))

pub bounds-cells-w-2 : goal.bounds-cells-w-2
bounds-cells-w-2 c = simp length-set (omega arith)

pub bounds-cells-w-3 : goal.bounds-cells-w-3
bounds-cells-w-3 c = simp length-set (omega arith)

pub returns : goal.returns
returns c = (search rules, sym (name-room _ _ _ _ (omega arith)))
