-- Pieces that take a byte each at the end of a path, and what is left before them: those at its front, read from the end.
use Prim.Native.Nat.{ℕ, suc, ◌-◌, ◌≤◌, ◌<◌}
use mathlib.Core.Path.{◌≡◌, refl, sym, ap, ap₂, ◌∙◌}
use mathlib.Core.Bool.{false}
use mathlib.Core.List.{List, [], ◌∷◌, map, map-append, reverse, reverse-cons, reverse-append}
use lib.ListN.{length, get_or, take, drop, length-reverse, length-drop, take-append-drop}
use lib.Seq.{take-suc, drop_at, get_or-drop}
use native.Mathlib.Nat.{add-zero}
use native.Mathlib.Omega.{arith}
use Rattle.pattern.specs.Pieces.{Piece}
use Rattle.pattern.specs.Codes.{decode}
use Rattle.matcher.specs.Match.{accepts}
use Rattle.matcher.specs.Walk.{repeats_of, taken}
use Rattle.matcher.proofs.Laws.{matches-only, matches-reverse}
use Rattle.matcher.proofs.Front.{whole, taken-le, taken-left, taken-dead}

-- ---- a list read from its end

drop-reverse : (l : List ℕ) (k : ℕ) → k ≤ length l → drop k (reverse l) ≡ reverse (take (length l - k) l)
drop-reverse l k h =
    let m = length l - k in
    ap (λ (t : List ℕ). drop k (reverse t)) (sym (take-append-drop m l))
    ∙ ap (drop k) (reverse-append (take m l) (drop m l))
    ∙ drop_at (reverse (drop m l)) (reverse (take m l)) k (omega (arith, length-reverse (drop m l), length-drop m l))

pub get_d_reverse : (l : List ℕ) (i : ℕ) → i < length l → get_or (reverse l) i 0 ≡ get_or l (length l - 1 - i) 0
get_d_reverse l i h =
    let j = length l - 1 - i in
    let e : length l - i ≡ suc j = omega arith in
    sym (rw add-zero at (get_or-drop i (reverse l) 0 0))
    ∙ rw (drop-reverse l i (omega arith), e, take-suc l j 0 (omega arith), reverse-append (take j l) (get_or l j 0 ∷ []))

map-reverse : (f : ℕ → Piece) (l : List ℕ) → map f (reverse l) ≡ reverse (map f l)
map-reverse f [] = refl
map-reverse f (c ∷ l) = rw (reverse-cons c l, reverse-cons (f c) (map f l), map-append f (reverse l) (c ∷ []), map-reverse f l)

-- ---- what stands before the pieces taken from the end must match; a piece there that is no star does not; one piece alone must accept

module _ (text : List ℕ) where
  pub back-le : (codes path : List ℕ) → (taken text (reverse codes) (reverse path) ≤ length codes) × (taken text (reverse codes) (reverse path) ≤ length path)
  back-le codes path = omega (arith, taken-le text (reverse codes) (reverse path), length-reverse codes, length-reverse path)

  whole-reverse : (codes path : List ℕ) → whole text (reverse codes) (reverse path) ≡ whole text codes path
  whole-reverse codes path = rw (map-reverse (decode text) codes) (matches-reverse (map (decode text) codes) path)

  module _ (codes path : List ℕ) (n : ℕ) (e : n ≡ taken text (reverse codes) (reverse path)) where
    pub back-left : whole text codes path ≡ whole text (take (length codes - n) codes) (take (length path - n) path)
    back-left =
        let h = back-le codes path in
        sym (whole-reverse codes path)
        ∙ rw (← e) at (taken-left text (reverse codes) (reverse path))
        ∙ ap₂ (whole text) (drop-reverse codes n (omega arith)) (drop-reverse path n (omega arith))
        ∙ whole-reverse (take (length codes - n) codes) (take (length path - n) path)

    pub back-dead : n < length codes → repeats_of (decode text (get_or codes (length codes - n - 1) 0)) ≡ false → whole text codes path ≡ false
    back-dead h l =
        let q : length codes - 1 - n ≡ length codes - n - 1 = omega arith in
        let b : repeats_of (decode text (get_or (reverse codes) n 0)) ≡ false = rw (get_d_reverse codes n h, q) l in
        sym (whole-reverse codes path)
        ∙ taken-dead text (reverse codes) (reverse path) (omega (arith, length-reverse codes)) (rw (← e) b)

    pub back-only : length codes - n ≡ 1 → whole text codes path ≡ accepts (decode text (get_or codes (length codes - n - 1) 0)) (take (length path - n) path)
    back-only q =
        back-left ∙ rw (q, take-suc codes 0 0 (omega arith)) (matches-only (decode text (get_or codes 0 0)) (take (length path - n) path))
