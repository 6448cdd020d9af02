use native.Mathlib.Omega.{arith}
use Prim.Native.Nat.{ℕ, min}
use mathlib.Core.Path.{ap, ◌∙◌}
use mathlib.Core.List.{List}
use Rattle.pattern.proofs.Laws.{item_end-le, item_end-more}
use Rattle.sizes.specs.Numbered.{name_by, pattern_by}
use Rattle.sizes.proofs.Loops.{items_from, items-literals, items_end, items_step}
use Rattle.measure.proofs.pattern_size.Goals as goal

pub sized-requires-clause-ahead : goal.sized-requires-clause-ahead
sized-requires-clause-ahead c i next w h k = (omega (arith, item_end-more c.span-s.result.now i h), omega (arith, item_end-le c.span-s.result.now i))

pub returns : goal.returns
returns c =
    let f = name_by c.args.text.now c.args.vars.now c.args.sizes.now (min 32 c.args.n) in
    c.sized.ensures (items_from f c.span-s.result.now) (record {
      literals = λ i end e. items-literals f c.span-s.result.now i end e;
      nothing = λ i h. items_end f c.span-s.result.now i h;
      other = λ i next z w h k m. items_step f c.span-s.result.now i next z h (cc) (cc);
    })
    ∙ ap (λ (t : List ℕ). (pattern_by c.args.text.now c.args.vars.now c.args.n c.args.sizes.now t).size) c.span-s.ensures
