-- What the code of a piece says of it.
use mathlib.Core.Path.{◌≡◌, refl, sym, ◌∙◌}
use mathlib.Core.Logic.{⊎_elim}
use mathlib.Core.Bool.{Bool, true, false, not, ◌&&◌, ◌||◌}
use mathlib.Core.List.{List, [], ◌∷◌}
use Prim.Native.Nat.{ℕ, ◌≤◌}
use Prim.Native.Char.{code}
use native.Mathlib.Omega.{arith}
use lib.Dec.{eqb}
use borrow.Author.Tests.{eqb-true, eqb-false, eq-eqb, ne_eqb}
use Rattle.scan.specs.Bytes.{every, holds, some}
use Rattle.scan.proofs.Bools.{or_cases}
use Rattle.pattern.specs.Codes.{decode}
use Rattle.pattern.proofs.Codes.{decode-one, decode-star, decode-stars, test-decode}
use Rattle.matcher.specs.Match.{accepts, no_slash}
use Rattle.matcher.specs.Walk.{repeats_of, takes_of}

pub repeats-decode : (text : List ℕ) (c : ℕ) → repeats_of (decode text c) ≡ (eqb c 257 || eqb c 258)
repeats-decode text =
    test-decode repeats_of (λ c. eqb c 257 || eqb c 258) text
    (λ c h. rw (ne_eqb c 257 (λ q. omega arith), ne_eqb c 258 (λ q. omega arith))) refl refl refl
    (λ c k h. rw (ne_eqb c 257 (λ q. omega arith), ne_eqb c 258 (λ q. omega arith)))

pub takes-stars : (text : List ℕ) (c b : ℕ) → c ≡ 258 → takes_of (decode text c) b ≡ true
takes-stars text c b e = rw (e, decode-stars text)

pub takes-other : (text : List ℕ) (c b : ℕ) → 256 ≤ c → c ≤ 257 → takes_of (decode text c) b ≡ no_slash b
takes-other text c b h k = go (eqb c 256) refl
  where
    go : (t : Bool) → eqb c 256 ≡ t → takes_of (decode text c) b ≡ no_slash b
    go true e = rw (eqb-true c 256 e, decode-one text)
    go false e =
        let q : c ≡ 256 → ⊥ = eqb-false c 256 e in
        let s : c ≡ 257 = omega arith in
        rw (s, decode-star text)

no_slash_lem : (s : List ℕ) → not (holds (code "/") s) ≡ every no_slash s
unfolding some every
no_slash_lem [] = refl
no_slash_lem (b ∷ s) = go (eqb b (code "/")) refl (no_slash_lem s)
  where
    go : (t : Bool) → eqb b (code "/") ≡ t → not (holds (code "/") s) ≡ every no_slash s → not (holds (code "/") (b ∷ s)) ≡ (not t && every no_slash s)
    go true e h = rw (eq-eqb (code "/") b (sym (eqb-true b (code "/") e)))
    go false e h = rw (ne_eqb (code "/") b (λ q. eqb-false b (code "/") e (sym q))) h

-- what a star accepts: ** every path, * those without a slash
pub accepts-star : (text : List ℕ) (c : ℕ) (s : List ℕ) → repeats_of (decode text c) ≡ true → (eqb c 258 || not (holds (code "/") s)) ≡ accepts (decode text c) s
accepts-star text c s h =
    ⊎_elim (λ e. rw (eqb-true c 257 e, decode-star text) (no_slash_lem s))
    (λ e. rw (eqb-true c 258 e, decode-stars text))
    (or_cases (eqb c 257) (eqb c 258) (sym (repeats-decode text c) ∙ h))
