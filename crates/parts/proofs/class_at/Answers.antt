use native.Mathlib.Omega.{arith}
use mathlib.Core.Path.{sym, ap, ◌∙◌}
use mathlib.Core.Bool.{true}
use lib.ListN.{length, drop, length-drop}
use Rattle.scan.proofs.Laws.{length-span}
use Rattle.pattern.proofs.Laws.{up_to-le, class-read}
use Rattle.parts.proofs.class_at.Goals as goal

pub overflow_add-at : goal.overflow_add-at
overflow_add-at c = omega (arith, c.up_to-n.ensures, up_to-le 93 (drop c.args.at c.span-s.result.now), length-drop c.args.at c.span-s.result.now, ap length c.span-s.ensures, length-span c.args.text.now c.args.a c.args.e)

pub overflow_add-result : goal.overflow_add-result
overflow_add-result c = omega (arith, c.up_to-n.ensures, up_to-le 93 (drop c.args.at c.span-s.result.now), length-drop c.args.at c.span-s.result.now, ap length c.span-s.ensures, length-span c.args.text.now c.args.a c.args.e)

pub returns-then-good_class : goal.returns-then-good_class
returns-then-good_class c = record { is = class-read c.args.text.now c.span-s.result.now c.span.result.now c.args.a c.args.e c.args.at c.up_to-n.result true c.span-s.ensures c.up_to-n.ensures c.if-n-eq0.false c.span.ensures (sym c.good_class.ensures ∙ c.if-good_class.true); fits = omega (arith, c.up_to-n.ensures, up_to-le 93 (drop c.args.at c.span-s.result.now), length-drop c.args.at c.span-s.result.now, ap length c.span-s.ensures, length-span c.args.text.now c.args.a c.args.e) }
