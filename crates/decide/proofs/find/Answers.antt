use native.Mathlib.Omega.{arith}
use Prim.Native.Nat.{ℕ, suc, ◌+◌, ◌-◌}
use mathlib.Core.Path.{◌≡◌, sym, ap, ◌∙◌}
use mathlib.Core.List.{List}
use Rattle.scan.specs.Bytes.{same}
use Rattle.decide.proofs.Laws.{found_here, found-later, found_none}
use Rattle.decide.proofs.find.Goals as goal

pub returns-then-same_bytes : goal.returns-then-same_bytes
returns-then-same_bytes c =
    let k : c.args.n - c.loop-i.i ≡ suc (c.args.n - (c.loop-i.i + 1)) = omega arith in
    let e = sym (ap (λ (x : List ℕ). same x c.args.name.now) c.span.ensures) ∙ sym c.same_bytes.ensures ∙ c.if-same_bytes.true in
    sym ((rw k at c.loop-i.invariant.1) ∙ found_here c.args.text.now c.args.table.now (c.args.n - (c.loop-i.i + 1)) c.loop-i.i c.args.name.now e)

pub loop-i-preserved : goal.loop-i-preserved
loop-i-preserved c =
    let k : c.args.n - c.loop-i.i ≡ suc (c.args.n - (c.loop-i.i + 1)) = omega arith in
    let e = sym (ap (λ (x : List ℕ). same x c.args.name.now) c.span.ensures) ∙ sym c.same_bytes.ensures ∙ c.if-same_bytes.false in
    (c.loop-i.invariant.0, (rw k at c.loop-i.invariant.1) ∙ found-later c.args.text.now c.args.table.now (c.args.n - (c.loop-i.i + 1)) c.loop-i.i c.args.name.now e)

pub returns : goal.returns
returns c =
    let k : c.args.n - c.loop-i.i ≡ 0 = omega arith in
    sym ((rw k at c.loop-i.invariant.1) ∙ found_none c.args.text.now c.args.table.now c.loop-i.i c.args.name.now)
