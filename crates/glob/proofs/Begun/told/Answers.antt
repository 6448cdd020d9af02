use native.Mathlib.Omega.{arith}
use mathlib.Core.Path.{◌≡◌, sym, ap, ap₂, ◌∙◌}
use mathlib.Core.Bool.{not}
use mathlib.Core.List.{List}
use Prim.Native.Nat.{ℕ, ◌≤◌}
use borrow.Author.Tests.{eqb-true, ltb-false, not-false}
use lib.Dec.{eqb, ltb}
use lib.ListN.{length, get_or, drop}
use Rattle.scan.specs.Bytes.{span}
use Rattle.scan.proofs.Bools.{neither_left, neither_right}
use Rattle.scan.proofs.Laws.{span_rest}
use Rattle.direct.specs.Direct.{outcome_of}
use Rattle.glob.proofs.Laws.{len-path, len-pattern}
use Rattle.glob.proofs.Direct.{direct-miss, direct-some, direct-exactly, direct_good}
use Rattle.glob.proofs.Begun.told.Goals as goal

pub bounds-pattern-0 : goal.bounds-pattern-0
bounds-pattern-0 c = omega (arith, len-pattern (span c.args.self.text.now c.args.self.a c.args.self.e) c.args.self.path.now c.args.self.begins, ap length c.span-pattern.ensures)

pub slice_bounds-compare-count : goal.slice_bounds-compare-count
slice_bounds-compare-count c = omega (arith, len-pattern (span c.args.self.text.now c.args.self.a c.args.self.e) c.args.self.path.now c.args.self.begins, ap length c.span-pattern.ensures)

pub slice_bounds-compare-start : goal.slice_bounds-compare-start
slice_bounds-compare-start c = omega (arith, len-pattern (span c.args.self.text.now c.args.self.a c.args.self.e) c.args.self.path.now c.args.self.begins, ap length c.span-pattern.ensures)

pub slice_bounds-compare-count-2 : goal.slice_bounds-compare-count-2
slice_bounds-compare-count-2 c = omega (arith, len-path (span c.args.self.text.now c.args.self.a c.args.self.e) c.args.self.path.now c.args.self.begins)

pub slice_bounds-compare-start-2 : goal.slice_bounds-compare-start-2
slice_bounds-compare-start-2 c = omega (arith, len-path (span c.args.self.text.now c.args.self.a c.args.self.e) c.args.self.path.now c.args.self.begins)

pub returns : goal.returns
returns c =
    let s = span c.args.self.text.now c.args.self.a c.args.self.e in
    let p = c.args.self.path.now in
    let l = c.args.self.led in
    let w = c.span-pattern.result.now in
    let e : w ≡ s = c.span-pattern.ensures in
    let o : c.compare.result ≡ outcome_of l.slash (drop l.len s) (drop l.len p) = c.compare.ensures ∙ ap₂ (outcome_of l.slash) (span_rest w l.len ∙ ap (drop l.len) e) (span_rest p l.len) in
    let short : length s ≤ 1024 = omega (arith, ap length e, ltb-false 1024 (length w) (neither_left (ltb 1024 (length w)) (not (eqb (get_or w 0 0) 47)) c.if-pattern.false)) in
    let first : get_or s 0 0 ≡ 47 = ap (λ (t : List ℕ). get_or t 0 0) (sym e) ∙ eqb-true (get_or w 0 0) 47 (not-false (eqb (get_or w 0 0) 47) (neither_right (ltb 1024 (length w)) (not (eqb (get_or w 0 0) 47)) c.if-pattern.false)) in
    record {
      miss = λ vs q. direct-miss vs s p c.args.self.begins (sym o ∙ q);
      hit = λ vs q. record {
        good = direct_good vs s p c.args.self.begins (sym o ∙ q) (omega arith) short first;
        some = direct-some vs s p c.args.self.begins (sym o ∙ q);
        exact = direct-exactly vs s p c.args.self.begins (sym o ∙ q);
      };
    }
