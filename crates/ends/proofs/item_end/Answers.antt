use Prim.Native.Nat.{ℕ}
use mathlib.Core.Path.{◌≡◌, refl, sym, ◌∙◌}
use mathlib.Core.Bool.{Bool, true, false}
use mathlib.Core.List.{List}
use lib.Dec.{ltb}
use lib.ListN.{length, get_or, drop}
use borrow.Author.Tests.{ltb-true, ltb-false, eqb-true, eqb-false}
use Rattle.scan.specs.Bytes.{begins}
use Rattle.scan.proofs.Laws.{begins-at, begins-lt}
use Rattle.pattern.specs.Places.{part_end, item_end}
use Rattle.pattern.proofs.Laws.{part_end-end, item_end-end, item_end-single, item_end-among, item_end-open}
use Rattle.ends.proofs.item_end.Goals as goal
use Rattle.ends.proofs.item_end.Goals.{then-begins_at+else-end-s, else-begins_at}

brace : (s : List ℕ) (i : ℕ) → begins 123 (drop i s) ≡ true → get_or s i 0 ≡ 123
brace s i e = eqb-true _ _ (sym (begins-at 123 s i (begins-lt 123 s i e)) ∙ e)

-- where no brace stands the item is a part
single : (s : List ℕ) (i : ℕ) → begins 123 (drop i s) ≡ false → part_end s i ≡ item_end s i
single s i e = go (ltb i (length s)) refl
  where
    go : (x : Bool) → ltb i (length s) ≡ x → part_end s i ≡ item_end s i
    go true k = sym (item_end-single s i (ltb-true _ _ k) (eqb-false _ _ (sym (begins-at 123 s i (ltb-true _ _ k)) ∙ e)))
    go false k = part_end-end s i (ltb-false _ _ k) ∙ sym (item_end-end s i (ltb-false _ _ k))

pub returns-then-end-s : goal.returns-then-end-s
returns-then-end-s c =
    let e = sym c.begins_at.ensures ∙ c.if-begins_at.true in sym (item_end-among c.args.s.now c.args.at c.seek-end.result (begins-lt 123 c.args.s.now c.args.at e) (brace c.args.s.now c.args.at e) c.seek-end.ensures c.if-end-s.true)

pub returns : goal.returns
returns c =
    c.part_end.ensures
    ∙ elim c.if-begins_at.branch [
      | then-begins_at+else-end-s w ↦ let e = sym c.begins_at.ensures ∙ w.if-begins_at.true in sym (item_end-open c.args.s.now c.args.at w.seek-end.result (begins-lt 123 c.args.s.now c.args.at e) (brace c.args.s.now c.args.at e) w.seek-end.ensures w.if-end-s.false)
      | else-begins_at w ↦ single c.args.s.now c.args.at (sym c.begins_at.ensures ∙ w.if-begins_at.false)
    ]
