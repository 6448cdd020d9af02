use native.Mathlib.Omega.{arith}
use Rattle.scan.specs.Bytes.{span}
use Rattle.scan.proofs.Laws.{length-span}
use Rattle.glob.proofs.Laws.{len-path, len-pattern, short-text, unopened, under-used}
use Rattle.glob.proofs.Begun.match_led.Goals as goal

pub overflow_add-start : goal.overflow_add-start
overflow_add-start c = omega (arith, len-pattern (span c.args.self.text.now c.args.self.a c.args.self.e) c.args.self.path.now c.args.self.begins, length-span c.args.self.text.now c.args.self.a c.args.self.e, short-text c.args.self.text.now c.args.self.path.now c.args.self.fits)

pub slice_bounds-rest-count : goal.slice_bounds-rest-count
slice_bounds-rest-count c = omega (arith, len-path (span c.args.self.text.now c.args.self.a c.args.self.e) c.args.self.path.now c.args.self.begins)

pub slice_bounds-rest-start : goal.slice_bounds-rest-start
slice_bounds-rest-start c = omega (arith, len-path (span c.args.self.text.now c.args.self.a c.args.self.e) c.args.self.path.now c.args.self.begins)

pub returns-then-may_open : goal.returns-then-may_open
returns-then-may_open c = under-used c.args.self.text.now c.args.vars.now c.args.n (span c.args.self.text.now c.args.self.a c.args.self.e) c.args.self.path.now c.used.ensures c.match_judged.ensures

pub returns : goal.returns
returns c = unopened _ c.args.self.text.now c.args.vars.now c.args.n c.args.self.a c.args.self.e c.args.self.path.now c.args.self.begins c.may_open.ensures c.if-may_open.false
