use native.Mathlib.Omega.{arith}
use Prim.Native.Nat.{ℕ, ◌+◌, ◌≤◌, max}
use mathlib.Core.Path.{◌≡◌, sym, ap, ◌∙◌}
use mathlib.Core.Bool.{true, false}
use mathlib.Core.List.{List}
use lib.ListN.{length}
use Rattle.std.proofs.Common.{rules}
use Rattle.scan.specs.Bytes.{span}
use Rattle.scan.proofs.Laws.{length-span}
use Rattle.pattern.proofs.Laws.{seek-le}
use Rattle.form.proofs.Laws.{every_more, every-stop, every-last}
use Rattle.form.proofs.every_alternative.Goals as goal

-- a place of a span is one of the text
most : (text s : List ℕ) (a e i : ℕ) → s ≡ span text a e → i ≤ length s → a + i ≤ max a (length text)
most text s a e i q h = omega (arith, ap length q, length-span text a e)

pub overflow_add-a-in-loop-s : goal.overflow_add-a-in-loop-s
overflow_add-a-in-loop-s g c =
    let j : c.seek-j.result ≤ length c.span-s.result.now = omega (arith, c.seek-j.ensures, seek-le 44 c.span-s.result.now c.loop-s.i c.loop-s.invariant.0) in
    omega (arith, most c.args.text.now c.span-s.result.now c.args.a c.args.e c.seek-j.result c.span-s.ensures j)

pub returns-then-not-good : goal.returns-then-not-good
returns-then-not-good g c p told =
    let j : c.seek-j.result ≤ length c.span-s.result.now = omega (arith, c.seek-j.ensures, seek-le 44 c.span-s.result.now c.loop-s.i c.loop-s.invariant.0) in
    let m = most c.args.text.now c.span-s.result.now c.args.a c.args.e in
    let y : c.good.result ≡ p (span c.args.text.now (c.args.a + c.loop-s.i) (c.args.a + c.seek-j.result)) =
    told _ _ _ (omega (arith, m c.loop-s.i c.span-s.ensures c.loop-s.invariant.0)) (omega (arith, m c.seek-j.result c.span-s.ensures j)) c.good.ensures in
    let z : c.good.result ≡ false = search rules in
    sym (every-stop p c.args.text.now c.span-s.result.now c.args.a c.args.e c.loop-s.i c.seek-j.result c.span-s.ensures c.seek-j.ensures j (sym y ∙ z)) ∙ c.loop-s.invariant.1 p told

pub returns-then-s-j : goal.returns-then-s-j
returns-then-s-j g c p told =
    let j : c.seek-j.result ≤ length c.span-s.result.now = omega (arith, c.seek-j.ensures, seek-le 44 c.span-s.result.now c.loop-s.i c.loop-s.invariant.0) in
    let m = most c.args.text.now c.span-s.result.now c.args.a c.args.e in
    let y : c.good.result ≡ p (span c.args.text.now (c.args.a + c.loop-s.i) (c.args.a + c.seek-j.result)) =
    told _ _ _ (omega (arith, m c.loop-s.i c.span-s.ensures c.loop-s.invariant.0)) (omega (arith, m c.seek-j.result c.span-s.ensures j)) c.good.ensures in
    let z : c.good.result ≡ true = search rules in
    sym z ∙ y ∙ sym (every-last p c.args.text.now c.span-s.result.now c.args.a c.args.e c.loop-s.i c.seek-j.result c.span-s.ensures c.seek-j.ensures j c.if-s-j.true) ∙ c.loop-s.invariant.1 p told

pub loop-s-preserved : goal.loop-s-preserved
loop-s-preserved g c = (
  omega arith,
  λ p told.
      let j : c.seek-j.result ≤ length c.span-s.result.now = omega (arith, c.seek-j.ensures, seek-le 44 c.span-s.result.now c.loop-s.i c.loop-s.invariant.0) in
      let m = most c.args.text.now c.span-s.result.now c.args.a c.args.e in
      let y : c.good.result ≡ p (span c.args.text.now (c.args.a + c.loop-s.i) (c.args.a + c.seek-j.result)) =
      told _ _ _ (omega (arith, m c.loop-s.i c.span-s.ensures c.loop-s.invariant.0)) (omega (arith, m c.seek-j.result c.span-s.ensures j)) c.good.ensures in
      let z : c.good.result ≡ true = search rules in
      sym (every_more p c.args.text.now c.span-s.result.now c.args.a c.args.e c.loop-s.i c.seek-j.result c.span-s.ensures c.seek-j.ensures j c.if-s-j.false (sym y ∙ z)) ∙ c.loop-s.invariant.1 p told,
)
