use Rattle.std.specs.Prelude.{◌≡◌, ℕ, ◌-◌, ◌<◌, ◌^◌, Bool, true, length, drop}
use Rattle.scan.specs.Bytes.{every}
use Rattle.pattern.specs.Pieces.{Byte, Is}
use Rattle.pattern.specs.Items.{Item, Single, items}
use Rattle.pattern.specs.Places.{item_at}
use Rattle.form.proofs.every_item.Given as goal

abbrev pub invariant-loop-i : goal.invariant-loop-i
invariant-loop-i g l =
    (p : Item → Bool) → ((b : ℕ) → p (Single (Is (Byte b))) ≡ true) → ((i : ℕ) (r : Bool) → i < 2 ^ 64 → goal.F-post g l.good i r → r ≡ p (item_at l.s i)) →
    every p (items 0 (drop l.i l.s)) ≡ every p (items 0 l.s)

abbrev pub decreases-loop-i : goal.decreases-loop-i
decreases-loop-i g l = length l.s - l.i
