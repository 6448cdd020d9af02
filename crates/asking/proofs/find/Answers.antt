use borrow.Author.Rules.{rules}
use native.Mathlib.Omega.{arith}
use native.Mathlib.Nat.{sub-zero}
use mathlib.Core.Path.{◌≡◌, sym, ap, ◌∙◌}
use mathlib.Core.List.{List}
use Prim.Native.Nat.{ℕ, suc, min, ◌+◌, ◌-◌, ◌≤◌}
use lib.ListN.{drop, get_or}
use Rattle.scan.specs.Bytes.{same}
use Rattle.entries.specs.Entries.{names_from}
use Rattle.asking.specs.Steps.{first_named}
use Rattle.asking.proofs.Laws.{name-at, number-here, number-later, number-none}
use Rattle.asking.proofs.find.Goals as goal

pub loop-i-init : goal.loop-i-init
loop-i-init c =
    let m : c.least-n.result ≡ min 32 (get_or c.args.head.now 1249 0) = c.least-n.ensures ∙ ap (min 32) c.cell.ensures in
    (omega (arith, m), ap (λ (k : ℕ). first_named c.args.name.now 0 (names_from c.args.text.now (drop 1120 c.args.head.now) k 0)) (sub-zero c.least-n.result ∙ m))

pub returns-then-same_bytes : goal.returns-then-same_bytes
returns-then-same_bytes c =
    let here = sym (c.same_bytes.ensures ∙ ap (λ (s : List ℕ). same s c.args.name.now) (c.span.ensures ∙ name-at c.args.text.now c.args.head.now c.loop-i.i _ _ c.cell-in-loop-i.ensures c.cell-in-loop-i-2.ensures)) in
    sym (number-here c.args.name.now c.args.text.now (drop 1120 c.args.head.now) c.loop-i.i {m = c.least-n.result - (c.loop-i.i + 1)} (omega arith) (here ∙ c.if-same_bytes.true)) ∙ c.loop-i.invariant.1

pub loop-i-preserved : goal.loop-i-preserved
loop-i-preserved c =
    let here = sym (c.same_bytes.ensures ∙ ap (λ (s : List ℕ). same s c.args.name.now) (c.span.ensures ∙ name-at c.args.text.now c.args.head.now c.loop-i.i _ _ c.cell-in-loop-i.ensures c.cell-in-loop-i-2.ensures)) in
    (omega arith, sym (number-later c.args.name.now c.args.text.now (drop 1120 c.args.head.now) c.loop-i.i {m = c.least-n.result - (c.loop-i.i + 1)} (omega arith) (here ∙ c.if-same_bytes.false)) ∙ c.loop-i.invariant.1)

pub returns : goal.returns
returns c = sym (number-none c.args.name.now c.args.text.now (drop 1120 c.args.head.now) c.loop-i.i {k = c.least-n.result - c.loop-i.i} (omega arith)) ∙ c.loop-i.invariant.1
