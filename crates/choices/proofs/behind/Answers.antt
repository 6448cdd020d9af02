use native.Mathlib.Omega.{arith}
use mathlib.Core.Path.{ap, ◌∙◌}
use mathlib.Core.List.{List}
use Prim.Native.Nat.{ℕ}
use Rattle.scan.specs.Bytes.{span}
use Rattle.scan.proofs.Laws.{length-span, drop-span}
use Rattle.pattern.specs.Places.{item_end}
use Rattle.pattern.proofs.Laws.{item_end-le}
use Rattle.choices.proofs.behind.Goals as goal

pub overflow_add-result : goal.overflow_add-result
overflow_add-result c = omega (arith, c.item_end.ensures ∙ ap (λ (s : List ℕ). item_end s 0) c.span.ensures, item_end-le (span c.args.text.now c.args.a c.args.e) 0, length-span c.args.text.now c.args.a c.args.e)

pub returns : goal.returns
returns c = rw (c.item_end.ensures, c.span.ensures, drop-span c.args.text.now c.args.a c.args.e)
