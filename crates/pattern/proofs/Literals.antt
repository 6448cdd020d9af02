-- An ordinary byte is a part and an item by itself.
use mathlib.Core.Path.{◌≡◌, refl, ap, ap₂, ◌∙◌}
use mathlib.Core.List.{List, [], ◌∷◌, ◌++◌, map}
use mathlib.Core.Bool.{Bool, true, false, ◌||◌}
use Prim.Native.Nat.{ℕ, suc}
use Prim.Native.Char.{code}
use lib.ListN.{take, drop}
use lib.Dec.{eqb}
use Rattle.scan.specs.Bytes.{run}
use Rattle.scan.proofs.Bools.{neither_left, neither_right}
use Rattle.pattern.specs.Pieces.{Part, Byte, Is, starting, part, extra, parts}
use Rattle.pattern.specs.Items.{Item, Single, item, reach, items}
use Rattle.pattern.specs.Literals.{special, ordinary}
use Rattle.pattern.proofs.Laws.{extra-by}

record Ordinary (b : ℕ) : Type 0 where
  escape : eqb b (code "\\") ≡ false
  one : eqb b (code "?") ≡ false
  star : eqb b (code "*") ≡ false
  bracket : eqb b (code "[") ≡ false
  closing : eqb b (code "]") ≡ false
  brace : eqb b (code "{") ≡ false
  ending : eqb b (code "}") ≡ false
  at : eqb b (code "@") ≡ false
  caret : eqb b (code "^") ≡ false

ordinary-is : (b : ℕ) → special b ≡ false → Ordinary b
ordinary-is b e =
    go (eqb b (code "\\")) (eqb b (code "?")) (eqb b (code "*")) (eqb b (code "[")) (eqb b (code "]")) (eqb b (code "{")) (eqb b (code "}")) (eqb b (code "@")) (eqb b (code "^"))
    refl refl refl refl refl refl refl refl refl e
  where
    go : (c1 c2 c3 c4 c5 c6 c7 c8 c9 : Bool) → eqb b (code "\\") ≡ c1 → eqb b (code "?") ≡ c2 → eqb b (code "*") ≡ c3 → eqb b (code "[") ≡ c4 → eqb b (code "]") ≡ c5
        → eqb b (code "{") ≡ c6 → eqb b (code "}") ≡ c7 → eqb b (code "@") ≡ c8 → eqb b (code "^") ≡ c9
        → (c1 || c2 || c3 || c4 || c5 || c6 || c7 || c8 || c9) ≡ false → Ordinary b
    go c1 c2 c3 c4 c5 c6 c7 c8 c9 e1 e2 e3 e4 e5 e6 e7 e8 e9 h =
        let h8 = neither_left (c1 || c2 || c3 || c4 || c5 || c6 || c7 || c8) c9 h in
        let h7 = neither_left (c1 || c2 || c3 || c4 || c5 || c6 || c7) c8 h8 in
        let h6 = neither_left (c1 || c2 || c3 || c4 || c5 || c6) c7 h7 in
        let h5 = neither_left (c1 || c2 || c3 || c4 || c5) c6 h6 in
        let h4 = neither_left (c1 || c2 || c3 || c4) c5 h5 in
        let h3 = neither_left (c1 || c2 || c3) c4 h4 in
        let h2 = neither_left (c1 || c2) c3 h3 in
        record {
          escape = e1 ∙ neither_left c1 c2 h2;
          one = e2 ∙ neither_right c1 c2 h2;
          star = e3 ∙ neither_right (c1 || c2) c3 h3;
          bracket = e4 ∙ neither_right (c1 || c2 || c3) c4 h4;
          closing = e5 ∙ neither_right (c1 || c2 || c3 || c4) c5 h5;
          brace = e6 ∙ neither_right (c1 || c2 || c3 || c4 || c5) c6 h6;
          ending = e7 ∙ neither_right (c1 || c2 || c3 || c4 || c5 || c6) c7 h7;
          at = e8 ∙ neither_right (c1 || c2 || c3 || c4 || c5 || c6 || c7) c8 h8;
          caret = e9 ∙ neither_right (c1 || c2 || c3 || c4 || c5 || c6 || c7 || c8) c9 h;
        }

module _ (b : ℕ) (s : List ℕ) (e : special b ≡ false) where
  part-ordinary : part b s ≡ Is (Byte b)
  unfolding part starting
  part-ordinary = let p = ordinary-is b e in rw (p.escape, p.one, p.star, p.bracket, p.at, p.closing, p.brace, p.ending, p.caret, part, starting)

  extra-ordinary : extra b s ≡ 0
  extra-ordinary = let p = ordinary-is b e in rw (extra-by b s, p.escape, p.star, p.bracket, p.at)

  item-ordinary : item b s ≡ Single (Is (Byte b))
  unfolding item
  item-ordinary = rw (ordinary-is b e).brace (ap Single part-ordinary)

  reach-ordinary : reach b s ≡ 0
  unfolding reach
  reach-ordinary = rw (ordinary-is b e).brace extra-ordinary

  pub parts-ordinary : parts 0 (b ∷ s) ≡ Is (Byte b) ∷ parts 0 s
  unfolding parts
  parts-ordinary = ap₂ (λ (i : Part) (n : ℕ). i ∷ parts n s) part-ordinary extra-ordinary

  pub items-ordinary : items 0 (b ∷ s) ≡ Single (Is (Byte b)) ∷ items 0 s
  unfolding items
  items-ordinary = ap₂ (λ (i : Item) (n : ℕ). i ∷ items n s) item-ordinary reach-ordinary

-- ---- a run of ordinary bytes

-- the part and the item that an ordinary byte is
abbrev pub literal_part : ℕ → Part
literal_part b = Is (Byte b)

abbrev pub literal_item : ℕ → Item
literal_item b = Single (Is (Byte b))

module _ (b : ℕ) (s : List ℕ) where
  run-here : special b ≡ false → run ordinary (b ∷ s) ≡ suc (run ordinary s)
  unfolding run
  run-here e = rw (e, run)

  run_none : special b ≡ true → run ordinary (b ∷ s) ≡ 0
  unfolding run
  run_none e = rw (e, run)

pub parts-run : (s : List ℕ) → parts 0 s ≡ map literal_part (take (run ordinary s) s) ++ parts 0 (drop (run ordinary s) s)
unfolding run
parts-run [] = refl
parts-run (b ∷ s) = go (special b) refl (parts-run s)
  where
    go : (x : Bool) → special b ≡ x → parts 0 s ≡ map literal_part (take (run ordinary s) s) ++ parts 0 (drop (run ordinary s) s) →
        parts 0 (b ∷ s) ≡ map literal_part (take (run ordinary (b ∷ s)) (b ∷ s)) ++ parts 0 (drop (run ordinary (b ∷ s)) (b ∷ s))
    go true e later = rw (run_none b s e)
    go false e later = rw (run-here b s e) (parts-ordinary b s e ∙ ap (λ (l : List Part). literal_part b ∷ l) later)

pub items-run : (s : List ℕ) → items 0 s ≡ map literal_item (take (run ordinary s) s) ++ items 0 (drop (run ordinary s) s)
unfolding run
items-run [] = refl
items-run (b ∷ s) = go (special b) refl (items-run s)
  where
    go : (x : Bool) → special b ≡ x → items 0 s ≡ map literal_item (take (run ordinary s) s) ++ items 0 (drop (run ordinary s) s) →
        items 0 (b ∷ s) ≡ map literal_item (take (run ordinary (b ∷ s)) (b ∷ s)) ++ items 0 (drop (run ordinary (b ∷ s)) (b ∷ s))
    go true e later = rw (run_none b s e)
    go false e later = rw (run-here b s e) (items-ordinary b s e ∙ ap (λ (l : List Item). literal_item b ∷ l) later)
