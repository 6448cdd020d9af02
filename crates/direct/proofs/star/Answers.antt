use native.Mathlib.Omega.{arith}
use mathlib.Core.Path.{refl, ap, ◌∙◌}
use Rattle.scan.proofs.Laws.{span_rest}
use Rattle.direct.specs.Direct.{fitting}
use Rattle.direct.proofs.Turns.{star-open, star-short, star-unfit, star-hit, star-slash}
use Rattle.direct.proofs.star.Goals as goal

pub returns-then-not-is_simple : goal.returns-then-not-is_simple
returns-then-not-is_simple c = star-open c.args.any c.args.tail.now c.args.path.now c.is_simple.ensures c.if-not-is_simple.true

pub returns-then-path-tail : goal.returns-then-path-tail
returns-then-path-tail c = star-short c.args.any c.args.tail.now c.args.path.now c.is_simple.ensures c.if-not-is_simple.false (omega arith)

pub returns-then-any-holds_byte : goal.returns-then-any-holds_byte
returns-then-any-holds_byte c = star-hit c.args.any c.args.tail.now c.args.path.now c.is_simple.ensures c.if-not-is_simple.false (omega arith) refl (c.fits.ensures ∙ ap (fitting c.args.tail.now) (span_rest c.args.path.now _)) c.if-fits.true c.holds_byte.ensures c.if-any-holds_byte.true

pub returns-else-any-holds_byte : goal.returns-else-any-holds_byte
returns-else-any-holds_byte c = star-slash c.args.any c.args.tail.now c.args.path.now c.is_simple.ensures c.if-not-is_simple.false (omega arith) refl (c.fits.ensures ∙ ap (fitting c.args.tail.now) (span_rest c.args.path.now _)) c.if-fits.true c.holds_byte.ensures c.if-any-holds_byte.false

pub returns-else-fits : goal.returns-else-fits
returns-else-fits c = star-unfit c.args.any c.args.tail.now c.args.path.now c.is_simple.ensures c.if-not-is_simple.false (omega arith) refl (c.fits.ensures ∙ ap (fitting c.args.tail.now) (span_rest c.args.path.now _)) c.if-fits.false
