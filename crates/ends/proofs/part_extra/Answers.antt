use native.Mathlib.Omega.{arith}
use Prim.Native.Nat.{ℕ}
use mathlib.Core.Path.{◌≡◌, refl}
use mathlib.Core.Bool.{Bool, true, false}
use mathlib.Core.List.{List}
use lib.Dec.{ltb}
use lib.ListN.{length, take, drop, length-take, length-drop}
use borrow.Author.Tests.{ltb-true, ltb-false, ne_eqb}
use mir.Val.{bool_byte}
use Rattle.std.specs.Prelude.{if◌then◌else◌}
use Rattle.pattern.proofs.Laws.{extra-by}
use Rattle.ends.proofs.part_extra.Goals as goal

bit : (b : Bool) (x : ℕ) → x ≡ bool_byte b → x ≡ (if b then 1 else 0)
bit true x e = e
bit false x e = e

first : (s : List ℕ) (at x : ℕ) (b : Bool) → ltb at (length s) ≡ b → x ≡ bool_byte b → x ≡ length (take 1 (drop at s))
first s at x true h e = omega (arith, ltb-true _ _ h, length-take 1 (drop at s), length-drop at s)
first s at x false h e = omega (arith, ltb-false _ _ h, length-take 1 (drop at s), length-drop at s)

pub returns-in-92 : goal.returns-in-92
returns-in-92 c = rw (extra-by _ _, c.in-92.is) (first _ _ _ _ refl c.from.ensures)

pub returns-in-42 : goal.returns-in-42
returns-in-42 c = rw (extra-by _ _, c.in-42.is, ← c.begins_at.ensures) (bit _ _ c.from-in-42.ensures)

pub returns-in-91 : goal.returns-in-91
returns-in-91 c = rw (extra-by _ _, c.in-91.is) c.up_to.ensures

pub returns-then-begins_at : goal.returns-then-begins_at
returns-then-begins_at c = rw (extra-by _ _, c.in-64.is, ← c.begins_at-in-64.ensures, c.if-begins_at.true) c.up_to-then-begins_at.ensures

pub returns-else-begins_at : goal.returns-else-begins_at
returns-else-begins_at c = rw (extra-by _ _, c.in-64.is, ← c.begins_at-in-64.ensures, c.if-begins_at.false)

pub returns-in_default : goal.returns-in_default
returns-in_default c = rw (extra-by _ _, ne_eqb c.args.b 92 (λ q. omega arith), ne_eqb c.args.b 42 (λ q. omega arith), ne_eqb c.args.b 91 (λ q. omega arith), ne_eqb c.args.b 64 (λ q. omega arith))
