use native.Mathlib.Omega.{arith}
use borrow.Author.Rules.{rules}
use Rattle.std.proofs.Common.{Option, Some, None, Result, Err}
use Rattle.std.specs.Option.{IsSome}
use mathlib.Core.List.{List}
use Rattle.entries.specs.Filled.{Filled}
use Rattle.entries.proofs.Walks.{filled-not}
use Rattle.entries.specs.declared.Next.{Next}
use Rattle.entries.specs.declared.Record.{Record}
use Rattle.entries.specs.declared.Unread.{Unread}
use mathlib.Core.Path.{◌≡◌, refl, ap, ◌∙◌}
use Prim.Native.Nat.{ℕ}
use lib.ListN.{length}
use Rattle.table.proofs.Filling.{filling-none, filling-one, filling-more, filling-all}
use Rattle.entries.specs.Ahead.{Judged, one_of, rest_from}
use Rattle.table.proofs.read.Goals as goal

filled-same : (s h : List ℕ) (ys : List Record) (h' : List ℕ) (e : Unread) → Judged s h (length ys) (Err e) h' → (r : Result ℕ Unread) → r ≡ Err e → Filled s h ys r h' ys
filled-same s h ys h' e j r q = rw q (filled-not s h ys e h' j)

pub returns-in_err-n : goal.returns-in_err-n
returns-in_err-n c = filled-same c.args.text.now c.args.head.now c.args.table.now c.judge.new.head c.in_err-n.field-0.0 c.in_err-n.ensures c.from_residual.result (search rules)

pub loop-i-init : goal.loop-i-init
loop-i-init c = filling-none c.args.text.now c.judge.new.head c.args.table.now c.start-at.result c.start-at.ensures

pub bounds-table-i : goal.bounds-table-i
bounds-table-i c = omega (arith, c.in_ok-n.ensures.fits)

pub unwrap-one-requires : goal.unwrap-one-requires
unwrap-one-requires c = go c.next_record.result refl
  where
    go : (r : Option Next) → c.next_record.result ≡ r → IsSome r
    go (Some v) e = refl
    go None e = absurd (filling-one c.args.text.now c.args.head.now c.args.table.now c.in_ok-n.n c.judge.new.head c.in_ok-n.ensures c.loop-i.i c.loop-i.at c.loop-i.table c.loop-i.invariant (omega arith) (c.next_record.ensures ∙ ap (one_of c.args.text.now (rest_from c.args.text.now c.judge.new.head)) e))

pub loop-i-preserved : goal.loop-i-preserved
loop-i-preserved c =
    filling-more c.args.text.now c.args.head.now c.args.table.now c.in_ok-n.n c.judge.new.head c.in_ok-n.ensures c.loop-i.i c.loop-i.at c.loop-i.table c.loop-i.invariant (omega (arith, c.in_ok-n.ensures.fits)) c.unwrap-one.result (c.next_record.ensures ∙ ap (one_of c.args.text.now (rest_from c.args.text.now c.judge.new.head)) c.unwrap-one.ensures)

pub returns : goal.returns
returns c = filling-all c.args.text.now c.args.head.now c.args.table.now c.in_ok-n.n c.judge.new.head c.in_ok-n.ensures c.loop-i.i c.loop-i.at c.loop-i.table c.loop-i.invariant (omega arith)
