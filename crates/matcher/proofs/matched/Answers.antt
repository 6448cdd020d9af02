use mathlib.Core.Path.{sym}
use native.Mathlib.Omega.{arith}
use lib.ListN.{length}
use borrow.Author.Tests.{le-leb, lt-leb}
use lib.Seq.{length-take-le, take_all}
use Rattle.matcher.proofs.matched.Goals as goal

pub slice_bounds-walk-end : goal.slice_bounds-walk-end
slice_bounds-walk-end c = sym (length-take-le c.args.count c.args.codes.now c.if-count-codes.true)

pub returns-then-count-codes : goal.returns-then-count-codes
returns-then-count-codes c = rw (le-leb (length c.args.path.now) 4095 (omega arith)) c.walk.ensures

pub returns-then-path-le4095 : goal.returns-then-path-le4095
returns-then-path-le4095 c = rw (le-leb (length c.args.path.now) 4095 (omega arith), take_all c.args.count c.args.codes.now (omega arith)) c.walk-then-path-le4095.ensures

pub returns : goal.returns
returns c = rw (lt-leb (length c.args.path.now) 4095 (omega arith))
