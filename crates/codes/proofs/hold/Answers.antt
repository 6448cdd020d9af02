use borrow.Author.Rules.{rules}
use mathlib.Core.Path.{refl, sym, ap, ◌∙◌}
use mathlib.Core.Bool.{true, false}
use mathlib.Core.List.{List, map}
use Prim.Native.Nat.{ℕ, ◌+◌}
use native.Mathlib.Omega.{arith}
use lib.ListN.{get_or, take, drop}
use Rattle.pattern.specs.Codes.{decode}
use Rattle.codes.specs.declared.Held.{Held}
use Rattle.codes.specs.Held.{held_from, held_wild, held_pieces}
use Rattle.codes.proofs.Laws.{kept-from, take-least, held-still, held-literal, held-wild, held-differs, held-goes, held-room, held-code, held-end, held-over}
use Rattle.codes.proofs.hold.Goals as goal

pub returns-then-h : goal.returns-then-h
returns-then-h c = λ text. sym (held-over c.args.path.now c.args.h (map (decode text) (drop c.args.from (take c.args.to c.args.codes.now))) c.if-h.true)

pub loop-i-init : goal.loop-i-init
loop-i-init c = (omega arith, λ text. ap (λ (l : List ℕ). held_pieces c.args.path.now (held_from c.args.h.at c.args.h.slash) (map (decode text) (drop c.args.from l))) (sym (take-least c.args.to c.least-end.result c.args.codes.now c.least-end.ensures)))

pub bounds-codes-i : goal.bounds-codes-i
bounds-codes-i c = omega (arith, c.least-end.ensures)

pub returns-then-c-ge-ONE : goal.returns-then-c-ge-ONE
returns-then-c-ge-ONE c =
    λ text. sym (held-over c.args.path.now (held_wild (held_from c.loop-i.at c.loop-i.slash)) (map (decode text) (drop (c.loop-i.i + 1) (take c.least-end.result c.args.codes.now))) refl)
    ∙ held-code c.args.path.now text c.args.codes.now c.least-end.result c.loop-i.i (search rules) (omega (arith, c.least-end.ensures)) (held_from c.loop-i.at c.loop-i.slash) (held-wild c.args.path.now (held_from c.loop-i.at c.loop-i.slash) refl text (get_or c.args.codes.now c.loop-i.i 0) c.if-c-ge-ONE.true)
    ∙ c.loop-i.invariant.1 text
    ∙ ap (λ (h : Held). held_pieces c.args.path.now h (map (decode text) (drop c.args.from (take c.args.to c.args.codes.now)))) (held-still c.args.h c.if-h.false)

pub returns-then-differs_at : goal.returns-then-differs_at
returns-then-differs_at c =
    let b = get_or c.args.codes.now c.loop-i.i 0 in
    let h : Held = record { at = c.loop-i.at; slash = c.loop-i.slash; wild = false; gone = true } in
    λ text. sym (held-over c.args.path.now h (map (decode text) (drop (c.loop-i.i + 1) (take c.least-end.result c.args.codes.now))) refl)
    ∙ held-code c.args.path.now text c.args.codes.now c.least-end.result c.loop-i.i (search rules) (omega (arith, c.least-end.ensures)) (held_from c.loop-i.at c.loop-i.slash)
    (held-literal c.args.path.now (held_from c.loop-i.at c.loop-i.slash) refl text b c.if-c-ge-ONE.false ∙ held-differs c.args.path.now c.loop-i.at c.loop-i.slash b (sym c.differs_at.ensures ∙ c.if-differs_at.true))
    ∙ c.loop-i.invariant.1 text
    ∙ ap (λ (h : Held). held_pieces c.args.path.now h (map (decode text) (drop c.args.from (take c.args.to c.args.codes.now)))) (held-still c.args.h c.if-h.false)

pub overflow_add-at : goal.overflow_add-at
overflow_add-at c = omega (arith, c.loop-i.invariant.0, held-room c.args.path.now c.loop-i.at c.loop-i.slash (get_or c.args.codes.now c.loop-i.i 0) (c.from-at.ensures ∙ kept-from _) (sym c.differs_at.ensures ∙ c.if-differs_at.false))

pub loop-i-preserved : goal.loop-i-preserved
loop-i-preserved c =
    let b = get_or c.args.codes.now c.loop-i.i 0 in
    let g = sym c.differs_at.ensures ∙ c.if-differs_at.false in (
      omega (arith, c.loop-i.invariant.0, held-room c.args.path.now c.loop-i.at c.loop-i.slash b (c.from-at.ensures ∙ kept-from _) g),
      λ text. held-code c.args.path.now text c.args.codes.now c.least-end.result c.loop-i.i (search rules) (omega (arith, c.least-end.ensures)) (held_from c.loop-i.at c.loop-i.slash)
          (held-literal c.args.path.now (held_from c.loop-i.at c.loop-i.slash) refl text b c.if-c-ge-ONE.false ∙ held-goes c.args.path.now c.loop-i.at c.loop-i.slash b (c.from-at.ensures ∙ kept-from _) g)
          ∙ c.loop-i.invariant.1 text,
    )

pub returns : goal.returns
returns c =
    λ text. sym (held-end c.args.path.now text c.args.codes.now c.least-end.result c.loop-i.i (search rules) (held_from c.loop-i.at c.loop-i.slash))
    ∙ c.loop-i.invariant.1 text
    ∙ ap (λ (h : Held). held_pieces c.args.path.now h (map (decode text) (drop c.args.from (take c.args.to c.args.codes.now)))) (held-still c.args.h c.if-h.false)
