use native.Mathlib.Omega.{arith}
use Prim.Native.Nat.{ℕ, min}
use mathlib.Core.Path.{ap, ◌∙◌}
use mathlib.Core.List.{List}
use Rattle.pattern.proofs.Laws.{part_end-le, part_end-more}
use Rattle.sizes.specs.Numbered.{name_by, value_by}
use Rattle.sizes.proofs.Loops.{parts_from, parts-literals, parts_end, parts_step}
use Rattle.measure.proofs.value_size.Goals as goal

pub sized-requires-clause-ahead : goal.sized-requires-clause-ahead
sized-requires-clause-ahead c i next w h k = (omega (arith, part_end-more c.span-s.result.now i h), omega (arith, part_end-le c.span-s.result.now i))

pub returns : goal.returns
returns c =
    let f = name_by c.args.text.now c.args.vars.now c.args.sizes.now (min 32 c.args.n) in
    c.sized.ensures (parts_from f c.span-s.result.now) (record {
      literals = λ i end e. parts-literals f c.span-s.result.now i end e;
      nothing = λ i h. parts_end f c.span-s.result.now i h;
      other = λ i next z w h k m. parts_step f c.span-s.result.now i next z h (cc) (cc);
    })
    ∙ ap (λ (t : List ℕ). (value_by c.args.text.now c.args.vars.now c.args.n c.args.sizes.now t).size) c.span-s.ensures
