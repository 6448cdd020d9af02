use lib.ListN.{length, drop, replicate}
use mathlib.Core.List.{List, ◌++◌, append_assoc}
use Prim.Native.Nat.{ℕ}
use mathlib.Core.Path.{◌≡◌, sym, ap₂, ◌∙◌}
use native.Mathlib.Omega.{arith}
use borrow.Author.Tests.{le-ltb}
use Rattle.std.proofs.Common.{rules}
use Rattle.layout.proofs.Laws.{laid}
use Rattle.layout.proofs.lay.Goals as goal

pub returns-clause-written : goal.returns-clause-written
returns-clause-written c =
    let zeros : c.fill.new.self ≡ replicate 255 0 = search rules in
    rw (le-ltb (length c.args.buffer.now) 268 c.if-buffer-lt-ANSWER.false)
    (ap₂ ◌++◌ c.copy-2.ensures (laid c.args.buffer.now c.fill.new.self c.copy.new.part c.args.target.now 13 255 _ (omega arith) (omega arith) (omega arith) zeros c.copy.ensures)
    ∙ sym (append_assoc c.args.head.now _ _))
