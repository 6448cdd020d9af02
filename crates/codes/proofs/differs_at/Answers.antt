use Rattle.std.specs.Prelude.{if◌then◌else◌}
use Prim.Native.Nat.{suc}
use Prim.Native.Char.{code}
use native.Mathlib.Omega.{arith}
use lib.ListN.{get_or}
use lib.Dec.{eqb}
use mathlib.Core.Path.{◌≡◌, refl, sym}
use mathlib.Core.Bool.{Bool, true, false, not}
use borrow.Author.Tests.{lt-ltb, le-ltb}
use Rattle.codes.specs.declared.Held.{Held}
use Rattle.codes.specs.Held.{held_from, held_byte}
use Rattle.codes.proofs.differs_at.Goals as goal

gone-if : (x : Bool) (a b : Held) → a.gone ≡ false → b.gone ≡ true → not x ≡ (if x then a else b).gone
gone-if true a b e f = sym e
gone-if false a b e f = sym f

pub returns-then-slash-code : goal.returns-then-slash-code
unfolding held_byte
returns-then-slash-code c = rw (c.if-slash-code.true, held_byte)

pub overflow_cast-result : goal.overflow_cast-result
overflow_cast-result c = omega (arith, (c.type_inv.path c.args.at).fits)

pub returns-then-at-path : goal.returns-then-at-path
unfolding held_byte
returns-then-at-path c =
    rw (held_byte, c.if-slash-code.false, lt-ltb _ _ c.if-at-path.true)
    (gone-if (eqb (get_or c.args.path.now c.args.at 0) c.args.code) (held_from (suc c.args.at) (eqb c.args.code (code "/"))) (record { at = c.args.at; slash = c.args.slash; wild = false; gone = true }) refl refl)

pub returns : goal.returns
unfolding held_byte
returns c = rw (held_byte, c.if-slash-code.false, le-ltb _ _ c.if-at-path.false)
