use mathlib.Core.Path.{refl, sym, ap, ◌∙◌}
use Prim.Native.Nat.{min}
use native.Mathlib.Omega.{arith}
use Rattle.entries.proofs.Cursors.{rest-one, rest_out, rest-pass}
use Rattle.entries.specs.declared.Cursor.{Cursor}
use Rattle.entries.proofs.next_record.Goals as goal

pub loop-i-init : goal.loop-i-init
loop-i-init c = record { all = c.least-n.ensures ∙ ap (min 32) c.cell.ensures; here = refl; rest = refl }

pub returns-in-Some : goal.returns-in-Some
returns-in-Some c = sym c.loop-i.invariant.rest ∙ rest-one c.args.text.now c.args.head.now c.loop-i.cursor (omega arith) c.in-Some.next c.in-Some.ensures

pub loop-i-preserved : goal.loop-i-preserved
loop-i-preserved c =
    let next = rest-pass c.args.text.now c.args.head.now c.loop-i.cursor (omega arith) c.next_here.result c.next_here.ensures c.in_default.is in
    record {
      all = c.loop-i.invariant.all;
      here = ap (λ (x : Cursor). x.profile) c.cursor_at-cursor.ensures;
      rest = rw (c.cursor_at-cursor.ensures, ← c.loop-i.invariant.here) next ∙ c.loop-i.invariant.rest;
    }

pub returns : goal.returns
returns c = sym c.loop-i.invariant.rest ∙ rest_out c.args.text.now c.args.head.now c.loop-i.cursor (omega arith)
