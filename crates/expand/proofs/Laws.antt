-- An expansion written piece by piece, and one chosen by its number.
use Rattle.std.specs.Prelude.{None, Some, if◌then◌else◌}
use Prim.Native.Nat.{ℕ, zero, suc, ◌+◌, ◌*◌, ◌-◌, ◌≤◌, ◌<◌, min}
use Prim.Native.Char.{code}
use mathlib.Core.Path.{◌≡◌, refl, sym, ap, ap₂, ◌∙◌}
use mathlib.Core.List.{List, [], ◌∷◌, ◌++◌, map, append_assoc, append-nil, map-append}
use mathlib.Core.Bool.{Bool, true, false, ◌&&◌}
use lib.ListN.{length, get_or, take, drop, drop_of_length-le, length-append, length-map, length-take, set, length-set}
use lib.Seq.{take-suc-set, take_all, take_at, drop-cons, drop-drop}
use lib.Dec.{eqb}
use borrow.Author.Tests.{le-leb, lt-leb, lt-ltb, le-ltb}
use native.Mathlib.Nat.{div-one}
use native.Mathlib.Numerals.{add-one}
use native.Mathlib.Omega.{arith}
use Rattle.scan.specs.Bytes.{run, span}
use Rattle.pattern.specs.Pieces.{Piece, Byte, Part, part, parts}
use Rattle.pattern.specs.Items.{Item, items, Single, Among, before, item, is_closed, alternatives, body}
use Rattle.pattern.specs.Places.{part_at, part_of, item_at, item_of}
use Rattle.pattern.specs.Codes.{decode}
use Rattle.pattern.specs.Expansions.{of_parts, of_items, one_of}
use Rattle.pattern.specs.Literals.{ordinary}
use Rattle.pattern.proofs.Literals.{literal_part, literal_item, parts-run, items-run}
use Rattle.pattern.proofs.Codes.{decode-byte}
use Rattle.pattern.specs.Reads.{seen_part, seen_item}
use Rattle.pattern.specs.Table.{bytes_at, values_from, values_of, number_of}
use Rattle.pattern.specs.declared.ItemRead.{ItemRead}
use Rattle.pattern.specs.declared.PartRead.{PartRead}
use Rattle.pattern.specs.declared.PartRead.TheVariants.{Use}
use Rattle.pattern.proofs.Laws.{number-le}
use Rattle.sizes.specs.declared.Size.{Size}
use Rattle.sizes.specs.Numbered.{Numbered, numbering, low_of, high_of, part_by, one_by}
use Rattle.sizes.proofs.Steps.{values-next, values-last, alternative-first, alternative-next, alternative-end, by_number, name-number}
use Rattle.codes.specs.declared.Held.{Held}
use Rattle.codes.specs.Held.{held_none, held_pieces, differs}
use Rattle.codes.proofs.Laws.{held_then, held-gone}
use Rattle.expand.specs.Write.{text_fits, Wrote, Written, Drafted}

-- ---- the buffer

take_more : {A : Type 0} (n : ℕ) (a b : List A) → take n (take n a ++ b) ≡ take n (a ++ b)
take_more zero a b = refl
take_more (suc n) [] b = refl
take_more (suc n) (x ∷ a) b = ap (λ (l : List _). x ∷ l) (take_more n a b)

module _ (text : List ℕ) where
  pub wrote-nil : (out : List ℕ) (m : ℕ) → m ≤ length out → Wrote text out m out m []
  wrote-nil out m h =
      record {
        size = refl;
        fits = h;
        all = rw append-nil (sym (take_all (length out) (map (decode text) (take m out)) (rw length-map (omega (arith, length-take m out)))));
      }

  pub wrote_then : {out mid end : List ℕ} {m n r : ℕ} {xs ys : List Piece} →
      Wrote text out m mid n xs → Wrote text mid n end r ys → Wrote text out m end r (xs ++ ys)
  wrote_then {out} {mid} {end} {m} {n} {r} {xs} {ys} p q =
      record {
        size = q.size ∙ p.size;
        fits = rw p.size at q.fits;
        all = q.all ∙ rw (p.size, p.all, take_more (length out) (map (decode text) (take m out) ++ xs) ys, append_assoc);
      }

  length_front : (out : List ℕ) (m : ℕ) → m ≤ length out → length (map (decode text) (take m out)) ≡ m
  length_front out m h = rw length-map (omega (arith, length-take m out))

  pub wrote-push : (out : List ℕ) (m x : ℕ) → m < length out → Wrote text out m (set out m x) (m + 1) (decode text x ∷ [])
  wrote-push out m x h =
      let z : length (map (decode text) (take m out) ++ (decode text x ∷ [])) ≤ length out =
      omega (arith, length-append (map (decode text) (take m out)) (decode text x ∷ []), length_front out m (omega arith)) in
      record {
        size = length-set out m x;
        fits = omega arith;
        all =
            rw (add-one, take-suc-set out m x h)
            (map-append (decode text) (take m out) (x ∷ []) ∙ sym (take_all (length out) (map (decode text) (take m out) ++ (decode text x ∷ [])) z));
      }

  pub wrote-full : (out : List ℕ) (m : ℕ) (ys : List Piece) → length out ≤ m → m ≤ length out → Wrote text out m out m ys
  wrote-full out m ys h k =
      record {
        size = refl;
        fits = k;
        all = sym (take_at (map (decode text) (take m out)) ys (length out) (length_front out m k ∙ omega arith));
      }

  -- all of a text that fits, and none of another
  pub written_all : {out end : List ℕ} {r : ℕ} {xs : List Piece} → length text ≤ 65535 → Wrote text out 0 end r xs →
      Written text out end r (if text_fits text then xs else [])
  written_all h p = rw (le-leb (length text) 65535 h) (record { size = p.size; fits = p.fits; all = p.all })

  pub written_none : (out : List ℕ) (xs : List Piece) → 65535 < length text → Written text out out 0 (if text_fits text then xs else [])
  written_none out xs h =
      rw (lt-leb (length text) 65535 h) (record { size = refl; fits = omega arith; all = sym (take_all (length out) [] (omega arith)) })

-- ---- a loop that writes: what is written, and what is left

pub record Writing (text out : List ℕ) (m : ℕ) (end : List ℕ) (r : ℕ) (rest ends : List Piece) : Type 0 where
  pub done : List Piece
  pub wrote : Wrote text out m end r done
  pub whole : done ++ rest ≡ ends

module _ {text out : List ℕ} {m : ℕ} {ends : List Piece} where
  pub writing-none : m ≤ length out → Writing text out m out m ends ends
  writing-none h = record { done = []; wrote = wrote-nil text out m h; whole = refl }

  -- a turn of the loop: the low digit is that of the next piece
  pub writing-turn : {end next : List ℕ} {r w left d q : ℕ} {z : Size} (rest x later : Numbered) → Writing text out m end r (rest.nth left) ends →
      rest ≡ numbering.beside x later → z ≡ x.size → d ≡ low_of left z.count → q ≡ high_of left z.count →
      Wrote text end r next w (x.nth d) → Writing text out m next w (later.nth q) ends
  writing-turn {left = left} {d = d} {q = q} rest x later p e s low high w =
      let digits : rest.nth left ≡ x.nth d ++ later.nth q = rw (e, low, high, s) in
      record {
        done = p.done ++ x.nth d;
        wrote = wrote_then text p.wrote w;
        whole = append_assoc p.done (x.nth d) (later.nth q) ∙ ap (λ (l : List Piece). p.done ++ l) (sym digits) ∙ p.whole;
      }

  pub writing-all : {end : List ℕ} {r left : ℕ} (rest : Numbered) → Writing text out m end r (rest.nth left) ends → rest ≡ numbering.empty →
      Wrote text out m end r ends
  writing-all {left = left} rest p e =
      let q : p.done ≡ ends = sym (append-nil p.done) ∙ ap (λ (l : List Piece). p.done ++ l) (rw e) ∙ p.whole in
      rw (← q) p.wrote

-- ---- literals in runs

module _ {text out : List ℕ} {m : ℕ} {ends : List Piece} where
  -- what comes next is written
  pub writing_more : {end next : List ℕ} {r w : ℕ} {rest left : List Piece} (xs : List Piece) → Writing text out m end r rest ends → rest ≡ xs ++ left →
      Wrote text end r next w xs → Writing text out m next w left ends
  writing_more {left = left} xs p e w =
      record {
        done = p.done ++ xs;
        wrote = wrote_then text p.wrote w;
        whole = append_assoc p.done xs left ∙ ap (λ (l : List Piece). p.done ++ l) (sym e) ∙ p.whole;
      }

  pub writing-byte : (s : List ℕ) (i : ℕ) → i < length s → get_or s i 0 < 256 → {end next : List ℕ} {r w : ℕ} →
      Writing text out m end r (map Byte (drop i s)) ends → Wrote text end r next w (decode text (get_or s i 0) ∷ []) → Writing text out m next w (map Byte (drop (i + 1) s)) ends
  writing-byte s i h b p w =
      let e : map Byte (drop i s) ≡ Byte (get_or s i 0) ∷ map Byte (drop (i + 1) s) = rw (add-one, drop-cons s i 0) in
      writing_more (Byte (get_or s i 0) ∷ []) p e (rw decode-byte at w)

  pub writing-done : {end : List ℕ} {r : ℕ} {rest : List Piece} → Writing text out m end r rest ends → rest ≡ [] → Wrote text out m end r ends
  writing-done p e =
      let q : p.done ≡ ends = sym (append-nil p.done) ∙ ap (λ (l : List Piece). p.done ++ l) (sym e) ∙ p.whole in
      rw (← q) p.wrote

pub run-done : (s : List ℕ) (i : ℕ) → length s ≤ i → map Byte (drop i s) ≡ []
run-done s i h = rw (drop_of_length-le s h)

-- the numbers of what stands behind literals are those of all
module _ (f : List ℕ → Numbered) (d : ℕ) where
  high_one : high_of d 1 ≡ d
  unfolding high_of
  high_one = div-one d

  literal-parts : (l : List ℕ) (r : List Part) → (of_parts numbering f (map literal_part l ++ r)).nth d ≡ map Byte l ++ (of_parts numbering f r).nth d
  unfolding of_parts
  literal-parts [] r = refl
  literal-parts (b ∷ l) r = ap (λ (x : List Piece). Byte b ∷ x) (ap (of_parts numbering f (map literal_part l ++ r)).nth high_one ∙ literal-parts l r)

  literal-items : (l : List ℕ) (r : List Item) → (of_items numbering f (map literal_item l ++ r)).nth d ≡ map Byte l ++ (of_items numbering f r).nth d
  unfolding of_items
  literal-items [] r = refl
  literal-items (b ∷ l) r = ap (λ (x : List Piece). Byte b ∷ x) (ap (of_items numbering f (map literal_item l ++ r)).nth high_one ∙ literal-items l r)

  module _ (s : List ℕ) (i next : ℕ) (n : next ≡ i + run ordinary (drop i s)) where
    taken : take (run ordinary (drop i s)) (drop i s) ≡ span s i next
    taken = ap (λ (k : ℕ). take k (drop i s)) (let e : run ordinary (drop i s) ≡ next - i = omega arith in e)

    behind : drop (run ordinary (drop i s)) (drop i s) ≡ drop next s
    behind = drop-drop (run ordinary (drop i s)) i s ∙ ap (λ (k : ℕ). drop k s) (sym n)

    pub parts-behind : (of_parts numbering f (parts 0 (drop i s))).nth d ≡ map Byte (span s i next) ++ (of_parts numbering f (parts 0 (drop next s))).nth d
    parts-behind =
        ap (λ (l : List Part). (of_parts numbering f l).nth d) (parts-run (drop i s)) ∙ literal-parts (take (run ordinary (drop i s)) (drop i s)) _
        ∙ ap₂ (λ (x l : List ℕ). map Byte x ++ (of_parts numbering f (parts 0 l)).nth d) taken behind

    pub items-behind : (of_items numbering f (items 0 (drop i s))).nth d ≡ map Byte (span s i next) ++ (of_items numbering f (items 0 (drop next s))).nth d
    items-behind =
        ap (λ (l : List Item). (of_items numbering f l).nth d) (items-run (drop i s)) ∙ literal-items (take (run ordinary (drop i s)) (drop i s)) _
        ∙ ap₂ (λ (x l : List ℕ). map Byte x ++ (of_items numbering f (items 0 l)).nth d) taken behind

-- ---- what is written is held to a path

map-drop : {A B : Type 0} (f : A → B) (k : ℕ) (l : List A) → map f (drop k l) ≡ drop k (map f l)
map-drop f zero l = refl
map-drop f (suc k) [] = refl
map-drop f (suc k) (x ∷ l) = map-drop f k l

-- what stands first stays first
first_part : (n : ℕ) (a b : List Piece) → length a ≤ n → take n (a ++ b) ≡ a ++ drop (length a) (take n (a ++ b))
first_part n [] b h = refl
first_part zero (x ∷ a) b h = absurd (omega arith)
first_part (suc n) (x ∷ a) b h = ap (λ (l : List Piece). x ∷ l) (first_part n a b (omega arith))

-- a list that is cut goes on with what is left of the room
cut-then : (n : ℕ) (a b : List Piece) → take n (a ++ b) ≡ take n a ++ take (n - length a) b
cut-then n [] b = let z : n - 0 ≡ n = omega arith in rw z (ap (λ (l : List Piece). l ++ take n b) (sym (take_all n [] (omega arith))))
cut-then zero (x ∷ a) b = let z : 0 - length (x ∷ a) ≡ 0 = omega arith in rw z
cut-then (suc n) (x ∷ a) b = let z : suc n - length (x ∷ a) ≡ n - length a = omega arith in rw z (ap (λ (l : List Piece). x ∷ l) (cut-then n a b))

module _ (text : List ℕ) (slash : Bool) (path : List ℕ) where
  -- what the first codes of a buffer come to
  abbrev pub held_to : List ℕ → ℕ → Held
  held_to out w = held_pieces path (held_none slash) (map (decode text) (take w out))

  pub held_more : {out mid : List ℕ} {w r : ℕ} {xs : List Piece} {h next : Held} → w ≤ length out → Wrote text out w mid r xs → h ≡ held_to out w →
      next ≡ held_pieces path h (map (decode text) (drop w (take r mid))) → next ≡ held_to mid r
  held_more {out} {mid} {w} {r} {xs} k p e n =
      let a = map (decode text) (take w out) in
      let l : length a ≡ w = length_front text out w k in
      let m : map (decode text) (take r mid) ≡ a ++ drop w (map (decode text) (take r mid)) =
      rw p.all (first_part (length out) a xs (omega arith) ∙ ap (λ (j : ℕ). a ++ drop j (take (length out) (a ++ xs))) l) in
      n ∙ rw (e, map-drop (decode text) w (take r mid)) (sym (held_then path (held_none slash) a (drop w (map (decode text) (take r mid)))))
      ∙ ap (held_pieces path (held_none slash)) (sym m)

  -- given up
  pub drafted-gone : {out end : List ℕ} {r : ℕ} {rest xs : List Piece} {h : Held} → length text ≤ 65535 → Writing text out 0 end r rest xs → h ≡ held_to end r →
      h.gone ≡ true → Drafted text out end slash path None (if text_fits text then xs else [])
  drafted-gone {out} {end} {r} {rest} {xs} {h} short p e g =
      let q : map (decode text) (take r end) ≡ take (length out) p.done = p.wrote.all in
      let k : held_pieces path (held_none slash) (take (length out) p.done) ≡ h = ap (held_pieces path (held_none slash)) (sym q) ∙ sym e in
      let w : held_pieces path (held_none slash) (take (length out) xs) ≡ h =
      rw (← p.whole, cut-then (length out) p.done rest, held_then path (held_none slash) (take (length out) p.done) (take (length out - length p.done) rest), k)
      (held-gone path h (take (length out - length p.done) rest) g) in
      rw (le-leb (length text) 65535 short)
      (record {
        gone = ap (λ (z : Held). z.gone) w ∙ g;
        written = p.wrote.size;
      })

  -- written to its end
  pub drafted-all : {out end : List ℕ} {r : ℕ} {xs : List Piece} {h : Held} → length text ≤ 65535 → Wrote text out 0 end r xs → h ≡ held_to end r →
      h.gone ≡ false → Drafted text out end slash path (Some r) (if text_fits text then xs else [])
  drafted-all {xs = xs} short p e g =
      record {
        gone = rw (le-leb (length text) 65535 short) (sym (ap (λ (z : Held). z.gone) (e ∙ ap (held_pieces path (held_none slash)) p.all)) ∙ g);
        written = written_all text short p;
      }

  -- none of a text too long
  pub drafted-none : (out : List ℕ) (xs : List Piece) → 65535 < length text →
      Drafted text out out slash path (Some 0) (if text_fits text then xs else [])
  unfolding held_pieces
  drafted-none out xs long =
      record {
        gone = rw (lt-leb (length text) 65535 long) (ap (λ (l : List Piece). differs slash path l) (take_all (length out) [] (omega arith)));
        written = written_none text out xs long;
      }

-- ---- a loop that chooses: the number among what is left

module _ (f : List ℕ → Numbered) (left : ℕ) where
  nth-eq : {a b : Numbered} → a ≡ b → a.nth left ≡ b.nth left
  nth-eq e = ap (λ (x : Numbered). x.nth left) e

  -- what is chosen where there is none
  nothing : (text : List ℕ) → (of_parts numbering f (parts 0 (span text 0 0))).nth 0 ≡ []
  unfolding of_parts parts
  nothing text = refl

  -- the values of a variable from value k on
  module _ {ends : List Piece} (text vars : List ℕ) (m k i : ℕ) (p : (one_of numbering f (values_from text vars (m - k) (i + k))).nth left ≡ ends) where
    module _ {z : Size} (h : k < m) (o : z ≡ (of_parts numbering f (parts 0 (bytes_at text vars (96 + 2 * (i + k))))).size) where
      pub value-here : left < z.count → (of_parts numbering f (parts 0 (bytes_at text vars (96 + 2 * (i + k))))).nth left ≡ ends
      value-here g = sym (nth-eq (values-next numbering f text vars m k i h) ∙ rw (← o, lt-ltb left z.count g)) ∙ p

      pub value_there : z.count ≤ left → (one_of numbering f (values_from text vars (m - (k + 1)) (i + (k + 1)))).nth (left - z.count) ≡ ends
      value_there g = sym (nth-eq (values-next numbering f text vars m k i h) ∙ rw (← o, le-ltb left z.count g)) ∙ p

    pub value-nowhere : m ≤ k → (of_parts numbering f (parts 0 (span text 0 0))).nth 0 ≡ ends
    value-nowhere h = nothing text ∙ sym (nth-eq (values-last numbering f text vars m k i h)) ∙ p

  -- the alternatives from i on, the first of them to before the comma or end at j
  module _ {ends : List Piece} (text : List ℕ) (a e : ℕ) (s : List ℕ) (w : s ≡ span text a e) (i j : ℕ)
      (at : j ≡ i + before (code ",") 0 (drop i s)) (b : j ≤ length s) (p : (one_of numbering f (alternatives (drop i s))).nth left ≡ ends)
      {z : Size} (o : z ≡ (of_parts numbering f (parts 0 (span text (a + i) (a + j)))).size) where
    pub alternative-here : left < z.count → (of_parts numbering f (parts 0 (span text (a + i) (a + j)))).nth left ≡ ends
    alternative-here g = sym (nth-eq (alternative-first numbering f text a e s w i j at b) ∙ rw (← o, lt-ltb left z.count g)) ∙ p

    pub alternative-there : j < length s → z.count ≤ left → (one_of numbering f (alternatives (drop (j + 1) s))).nth (left - z.count) ≡ ends
    alternative-there h g = sym (nth-eq (alternative-next numbering f text a e s w i j at b h) ∙ rw (← o, le-ltb left z.count g)) ∙ p

    pub alternative-nowhere : length s ≤ j → z.count ≤ left → (of_parts numbering f (parts 0 (span text 0 0))).nth 0 ≡ ends
    alternative-nowhere h g = nothing text ∙ sym (nth-eq (alternative-end numbering f text a e s w i j at b h) ∙ rw (← o, le-ltb left z.count g)) ∙ p

-- ---- a variable that is used, by its number

module _ (text vars : List ℕ) (n r a e : ℕ) (h : r ≡ number_of text vars (min 32 n) (span text a e)) where
  pub named-le : r ≤ min 32 n
  named-le = omega (arith, number-le text vars (span text a e) (min 32 n))

  module _ (table : List ℕ) (d : ℕ) (p : PartRead) (k : p ≡ Use a e) where
    named_by : (part_by text vars n table (seen_part text p)).nth d ≡ (by_number text vars table r).nth d
    named_by = rw (k, h) (ap (λ (x : Numbered). x.nth d) (name-number text vars table (min 32 n) (span text a e)))

    pub named_none : r ≡ 0 → (part_by text vars n table (seen_part text p)).nth d ≡ []
    named_none z = named_by ∙ rw z

    pub named_some : 0 < r → (part_by text vars n table (seen_part text p)).nth d ≡ (one_by text vars (r - 1) table (values_of text vars (r - 1))).nth d
    named_some z =
        let i : r ≡ suc (r - 1) = omega arith in
        let b : min 32 (r - 1) ≡ r - 1 = omega (arith, named-le) in
        named_by ∙ rw b (ap (λ (w : ℕ). (by_number text vars table w).nth d) i)

-- ---- an item, as the code reads it

pub item-read : (text s : List ℕ) (at : ℕ) (r i : ItemRead) → seen_item text r ≡ item_at s at → r ≡ i → item_at s at ≡ seen_item text i
item-read text s at r i h e = rw e at (sym h)

pub item-single : (s : List ℕ) (i : ℕ) (p : Part) → item_at s i ≡ Single p → item_at s i ≡ Single (part_at s i)
unfolding item
item-single s i p e = go (drop i s) e
  where
    go : (l : List ℕ) → item_of l ≡ Single p → item_of l ≡ Single (part_of l)
    go [] e = refl
    go (b ∷ l) e = test (eqb b (code "{") && is_closed l) e
      where
        test : (x : Bool) → (if x then Among (alternatives (body l)) else Single (part b l)) ≡ Single p →
            (if x then Among (alternatives (body l)) else Single (part b l)) ≡ Single (part b l)
        test true e = let z : ◌≡◌ {A = ℕ} 0 1 = cc in absurd (omega arith)
        test false e = refl
