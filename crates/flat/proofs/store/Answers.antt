use Prim.Native.Nat.{ℕ, ◌+◌, ◌-◌}
use Rattle.std.proofs.lemmas.Slice.{put_mid-paste}
use Rattle.flat.proofs.Round.{record-back}
use Rattle.flat.specs.Layout.{encoded, record_at}
use borrow.Rule.Slice.PartMut.{put_mid}
use lib.ListN.{length}
use lib.Seq.{paste}
use mathlib.Core.List.{List}
use mathlib.Core.Path.{◌≡◌, ap, ◌∙◌}
use native.Mathlib.Omega.{arith}
use Rattle.flat.proofs.store.Goals as goal

pub returns : goal.returns
returns c =
    let p : put_mid c.args.at (c.args.at + 12 - c.args.at) c.args.memory.now c.copy_from_slice.new.self ≡ paste c.args.memory.now c.args.at (encoded c.args.«record») 12 =
    put_mid-paste c.args.at (c.args.at + 12 - c.args.at) c.args.memory.now c.copy_from_slice.new.self (encoded c.args.«record») 12 (c.copy_from_slice.ensures.after ∙ c.encode.ensures.same) (omega arith) (c.encode.ensures.value ∙ ap length c.encode.ensures.same) in
    record { pasted = p; back = ap (λ (x : List ℕ). record_at x c.args.at) p ∙ record-back c.args.memory.now c.args.at c.args.«record» (omega arith) c.encode.ensures.byte }
