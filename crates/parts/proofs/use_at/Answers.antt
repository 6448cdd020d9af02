use native.Mathlib.Omega.{arith}
use mathlib.Core.Path.{◌≡◌, ap}
use lib.ListN.{length, drop, length-drop}
use Rattle.scan.specs.Bytes.{span}
use Rattle.scan.proofs.Laws.{length-span}
use Rattle.pattern.specs.Pieces.{up_to}
use Rattle.pattern.proofs.Laws.{up_to-le, use-seen}
use Rattle.parts.proofs.use_at.Goals as goal

pub overflow_add-result : goal.overflow_add-result
overflow_add-result c = omega (arith, c.up_to-n.ensures, up_to-le 125 (drop c.args.at c.span-s.result.now), length-drop c.args.at c.span-s.result.now, ap length c.span-s.ensures, length-span c.args.text.now c.args.a c.args.e)

pub overflow_add-result-2 : goal.overflow_add-result-2
overflow_add-result-2 c = omega (arith, c.up_to-n.ensures, up_to-le 125 (drop c.args.at c.span-s.result.now), length-drop c.args.at c.span-s.result.now, ap length c.span-s.ensures, length-span c.args.text.now c.args.a c.args.e)

pub overflow_add-result-3 : goal.overflow_add-result-3
overflow_add-result-3 c = omega (arith, c.up_to-n.ensures, up_to-le 125 (drop c.args.at c.span-s.result.now), length-drop c.args.at c.span-s.result.now, ap length c.span-s.ensures, length-span c.args.text.now c.args.a c.args.e)

pub overflow_add-result-4 : goal.overflow_add-result-4
overflow_add-result-4 c = omega (arith, c.up_to-n.ensures, up_to-le 125 (drop c.args.at c.span-s.result.now), length-drop c.args.at c.span-s.result.now, ap length c.span-s.ensures, length-span c.args.text.now c.args.a c.args.e)

pub returns : goal.returns
returns c =
    let u : c.up_to-n.result ≡ up_to 125 (drop c.args.at (span c.args.text.now c.args.a c.args.e)) = rw c.span-s.ensures at c.up_to-n.ensures in record { is = use-seen c.args.text.now c.args.a c.args.e c.args.at c.up_to-n.result u c.if-n-eq0.false; fits = omega arith }
