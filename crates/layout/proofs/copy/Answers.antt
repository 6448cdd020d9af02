use mathlib.Core.Path.{sym, ap, ◌∙◌}
use mathlib.Core.List.{List, [], ◌∷◌, ◌++◌}
use Prim.Native.Nat.{ℕ}
use native.Mathlib.Numerals.{add-one}
use native.Mathlib.Omega.{arith}
use lib.ListN.{get_or}
use lib.Seq.{take-suc, take-suc-set, take_all}
use Rattle.layout.proofs.copy.Goals as goal

pub loop-i-preserved : goal.loop-i-preserved
loop-i-preserved c =
    let i = c.loop-i.i in
    rw (add-one, take-suc-set c.loop-i.part i (get_or c.args.bytes.now i 0) (omega arith), take-suc c.args.bytes.now i 0 (omega arith))
    (ap (λ (s : List ℕ). s ++ (get_or c.args.bytes.now i 0 ∷ [])) c.loop-i.invariant)

pub returns : goal.returns
returns c = sym (take_all c.loop-i.i c.loop-i.part (omega arith)) ∙ c.loop-i.invariant ∙ take_all c.loop-i.i c.args.bytes.now (omega arith)
