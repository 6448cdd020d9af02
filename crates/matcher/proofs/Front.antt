-- Pieces that take a byte each at the front of a path, and what is left behind them.
use Rattle.std.specs.Prelude.{if◌then◌else◌}
use Rattle.std.specs.List.{prefix_len, zip}
use Prim.Native.Nat.{ℕ, suc, ◌+◌, ◌-◌, ◌≤◌, ◌<◌}
use mathlib.Core.Path.{◌≡◌, refl, sym, ◌∙◌}
use mathlib.Core.Bool.{Bool, true, false, not, ◌&&◌, cond}
use mathlib.Core.List.{List, [], ◌∷◌, map}
use lib.ListN.{length, get_or, drop, drop_of_length-le, length-drop}
use lib.Dec.{eqb}
use native.Mathlib.Omega.{arith}
use borrow.Author.Tests.{eq-eqb, ne_eqb, not-true}
use Rattle.scan.specs.Bytes.{is_empty}
use Rattle.scan.proofs.Bools.{and_left}
use Rattle.pattern.specs.Codes.{decode}
use Rattle.matcher.specs.Match.{matches}
use Rattle.matcher.specs.Walk.{repeats_of, taken, takes_of, takes_one}
use Rattle.matcher.proofs.Laws.{matches-nil, matches-one}

-- how many are taken, by the pairs of a piece and a byte
abbrev pub takes_pair : List ℕ → ℕ × ℕ → Bool
takes_pair text p = takes_one (decode text p.0) p.1

pub taken_zip : (text codes path : List ℕ) → prefix_len (takes_pair text) (zip codes path) ≡ taken text codes path
unfolding taken
taken_zip text [] s = refl
taken_zip text (c ∷ cs) [] = refl
taken_zip text (c ∷ cs) (b ∷ s) = go (takes_one (decode text c) b) (taken_zip text cs s)
  where
    go : (t : Bool) → prefix_len (takes_pair text) (zip cs s) ≡ taken text cs s
        → cond t (1 + prefix_len (takes_pair text) (zip cs s)) 0 ≡ (if t then suc (taken text cs s) else 0)
    go true e = rw e (omega arith)
    go false e = refl

pub ends : (s : List ℕ) (k : ℕ) → k ≤ length s → is_empty (drop k s) ≡ eqb k (length s)
ends s k h = go (drop k s) (length-drop k s)
  where
    go : (r : List ℕ) → length r ≡ length s - k → is_empty r ≡ eqb k (length s)
    go [] e = sym (eq-eqb k (length s) (omega arith))
    go (b ∷ r) e = sym (ne_eqb k (length s) (λ q. omega arith))

-- behind what is taken: what is left must match; a piece there that is no star does not; where no piece is left the path must end
module _ (text : List ℕ) where
  pub taken-le : (codes path : List ℕ) → (taken text codes path ≤ length codes) × (taken text codes path ≤ length path)
  unfolding taken
  taken-le [] s = omega arith
  taken-le (c ∷ cs) [] = omega arith
  taken-le (c ∷ cs) (b ∷ s) = go (takes_one (decode text c) b) (taken text cs s) (taken-le cs s)
    where
      go : (x : Bool) (n : ℕ) → (n ≤ length cs) × (n ≤ length s) → ((if x then suc n else 0) ≤ suc (length cs)) × ((if x then suc n else 0) ≤ suc (length s))
      go true n h = omega arith
      go false n h = omega arith

  abbrev pub whole : (codes path : List ℕ) → Bool
  whole codes path = matches (map (decode text) codes) path

  -- a piece in front that is no star
  module _ (c b : ℕ) (cs s : List ℕ) where
    one-front : repeats_of (decode text c) ≡ false → whole (c ∷ cs) (b ∷ s) ≡ (takes_one (decode text c) b && whole cs s)
    one-front e = rw e (matches-one (decode text c) (map (decode text) cs) b s e)

    takes_front : takes_one (decode text c) b ≡ true → whole (c ∷ cs) (b ∷ s) ≡ whole cs s
    takes_front e = one-front (not-true _ (and_left (not (repeats_of (decode text c))) (takes_of (decode text c) b) e)) ∙ rw e

  pub taken-left : (codes path : List ℕ) → whole codes path ≡ whole (drop (taken text codes path) codes) (drop (taken text codes path) path)
  unfolding taken
  taken-left [] s = refl
  taken-left (c ∷ cs) [] = refl
  taken-left (c ∷ cs) (b ∷ s) = go (takes_one (decode text c) b) (taken text cs s) refl (taken-left cs s)
    where
      go : (x : Bool) (n : ℕ) → takes_one (decode text c) b ≡ x → whole cs s ≡ whole (drop n cs) (drop n s)
          → whole (c ∷ cs) (b ∷ s) ≡ whole (drop (if x then suc n else 0) (c ∷ cs)) (drop (if x then suc n else 0) (b ∷ s))
      go true n e h = takes_front c b cs s e ∙ h
      go false n e h = refl

  pub taken-dead : (codes path : List ℕ) → taken text codes path < length codes → repeats_of (decode text (get_or codes (taken text codes path) 0)) ≡ false → whole codes path ≡ false
  unfolding taken
  taken-dead [] s h l = absurd (omega arith)
  taken-dead (c ∷ cs) [] h l = matches-nil (decode text c) (map (decode text) cs) ∙ rw l
  taken-dead (c ∷ cs) (b ∷ s) h l = go (takes_one (decode text c) b) (taken text cs s) refl (taken-dead cs s) h l
    where
      go : (x : Bool) (n : ℕ) → takes_one (decode text c) b ≡ x → (n < length cs → repeats_of (decode text (get_or cs n 0)) ≡ false → whole cs s ≡ false)
          → (if x then suc n else 0) < suc (length cs) → repeats_of (decode text (get_or (c ∷ cs) (if x then suc n else 0) 0)) ≡ false
          → whole (c ∷ cs) (b ∷ s) ≡ false
      go true n e g h l = takes_front c b cs s e ∙ g (omega arith) l
      go false n e g h l = one-front c b cs s l ∙ rw e

  pub taken-done : (codes path : List ℕ) → length codes ≤ taken text codes path → whole codes path ≡ eqb (taken text codes path) (length path)
  unfolding matches
  taken-done codes path h =
      taken-left codes path ∙ rw (drop_of_length-le codes h) (ends path (taken text codes path) (taken-le codes path).1)
