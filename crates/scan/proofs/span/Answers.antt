use native.Mathlib.Omega.{arith}
use mathlib.Core.Path.{◌≡◌}
use Prim.Native.Nat.{◌-◌, ◌≤◌}
use lib.ListN.{length, drop, drop_of_length-le, length-drop}
use lib.Seq.{take_all, take-nil}
use Rattle.scan.proofs.span.Goals as goal

pub returns-then-e-text : goal.returns-then-e-text
returns-then-e-text c =
    let z : c.args.e - c.args.a ≡ 0 = omega arith in rw z

pub returns-then-a-text : goal.returns-then-a-text
returns-then-a-text c = rw (take_all (length c.args.text.now - c.args.a) (drop c.args.a c.args.text.now) (rw length-drop (omega arith)), take_all (c.args.e - c.args.a) (drop c.args.a c.args.text.now) (rw length-drop (omega arith)))

pub returns : goal.returns
returns c =
    let h : length c.args.text.now ≤ c.args.a = omega arith in rw (drop_of_length-le c.args.text.now h, take-nil)
