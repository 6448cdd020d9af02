use Prim.Native.Nat.{ℕ}
use mathlib.Core.Path.{refl, ap₂, ◌∙◌}
use native.Mathlib.Omega.{arith}
use Rattle.text.specs.declared.Refusal.{Refusal}
use Rattle.layout.specs.Layout.{head_by}
use Rattle.layout.proofs.Laws.{laid-whole}
use Rattle.layout.proofs.write.Goals as goal

pub returns-clause-written : goal.returns-clause-written
returns-clause-written c =
    let e = c.head_of-head.ensures.same ∙ ap₂ (λ (w : Refusal) (n : ℕ). head_by w c.args.a.granted c.args.a.recorded n c.args.a.target.len) c.refusal_of.ensures c.number.ensures in
    rw (← laid-whole c.args.a c.head_of-head.result c.args.a.target.bytes e (omega arith) refl) c.lay.ensures.written
