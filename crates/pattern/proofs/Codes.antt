-- What codes stand for.
use Rattle.std.specs.Prelude.{if◌then◌else◌}
use mathlib.Core.Path.{◌≡◌, refl, sym, ap, subst, ◌∙◌}
use mathlib.Core.Bool.{Bool, true, false, ◌&&◌}
use mathlib.Core.List.{List, [], ◌∷◌, map}
use Prim.Native.Nat.{ℕ, ◌+◌, ◌-◌, ◌≤◌, ◌<◌}
use Prim.Native.Char.{code}
use native.Mathlib.Omega.{arith}
use lib.Dec.{eqb, ltb}
use borrow.Author.Tests.{ltb-true, ltb-false, eqb-true, eqb-false, lt-ltb, le-ltb, ne_eqb}
use Rattle.pattern.specs.Pieces.{Piece, Byte, One, Star, StarStar, Class}
use Rattle.pattern.specs.Expansions.{is_slash, joined_after}
use Rattle.pattern.specs.Codes.{bracketed, decode, joined_codes_after}

module _ (text : List ℕ) where
  pub decode-byte : (c : ℕ) → c < 256 → decode text c ≡ Byte c
  unfolding decode
  decode-byte c h = rw (lt-ltb c 256 h)

  pub decode-one : decode text 256 ≡ One
  unfolding decode
  decode-one = refl

  pub decode-star : decode text 257 ≡ Star
  unfolding decode
  decode-star = refl

  pub decode-stars : decode text 258 ≡ StarStar
  unfolding decode
  decode-stars = refl

  pub decode-class : (c : ℕ) → 258 < c → decode text c ≡ Class (bracketed text (c - 65536))
  unfolding decode
  decode-class c h =
      rw (le-ltb c 256 (omega arith), ne_eqb c 256 (λ q. omega arith), ne_eqb c 257 (λ q. omega arith), ne_eqb c 258 (λ q. omega arith))

  pub decode-place : (p : ℕ) → decode text (65536 + p) ≡ Class (bracketed text p)
  decode-place p = let e : 65536 + p - 65536 ≡ p = omega arith in decode-class (65536 + p) (omega arith) ∙ rw e

-- what holds of the codes of each kind holds of all
by_kind : (P : ℕ → Type 0) (c : ℕ) → (c < 256 → P c) → P 256 → P 257 → P 258 → (258 < c → P c) → P c
by_kind P c byte one star stars class = go (ltb c 256) refl
  where
    rest₃ : (t : Bool) → eqb c 258 ≡ t → 257 < c → P c
    rest₃ true e h = subst P (sym (eqb-true c 258 e)) stars
    rest₃ false e h = class (let q : c ≡ 258 → ⊥ = eqb-false c 258 e in omega arith)

    rest₂ : (t : Bool) → eqb c 257 ≡ t → 256 < c → P c
    rest₂ true e h = subst P (sym (eqb-true c 257 e)) star
    rest₂ false e h = rest₃ (eqb c 258) refl (let q : c ≡ 257 → ⊥ = eqb-false c 257 e in omega arith)

    rest₁ : (t : Bool) → eqb c 256 ≡ t → 256 ≤ c → P c
    rest₁ true e h = subst P (sym (eqb-true c 256 e)) one
    rest₁ false e h = rest₂ (eqb c 257) refl (let q : c ≡ 256 → ⊥ = eqb-false c 256 e in omega arith)

    go : (t : Bool) → ltb c 256 ≡ t → P c
    go true e = byte (ltb-true c 256 e)
    go false e = rest₁ (eqb c 256) refl (ltb-false c 256 e)

-- a test of pieces is a test of codes
pub test-decode : (f : Piece → Bool) (g : ℕ → Bool) (text : List ℕ)
    → ((c : ℕ) → c < 256 → f (Byte c) ≡ g c) → f One ≡ g 256 → f Star ≡ g 257 → f StarStar ≡ g 258
    → ((c : ℕ) (k : List ℕ) → 258 < c → f (Class k) ≡ g c)
    → (c : ℕ) → f (decode text c) ≡ g c
test-decode f g text byte one star stars class c =
    by_kind (λ c. f (decode text c) ≡ g c) c
    (λ h. rw (decode-byte text c h) (byte c h))
    (rw (decode-one text) one)
    (rw (decode-star text) star)
    (rw (decode-stars text) stars)
    (λ h. rw (decode-class text c h) (class c (bracketed text (c - 65536)) h))

slash-decode : (text : List ℕ) (c : ℕ) → is_slash (decode text c) ≡ eqb c (code "/")
slash-decode text =
    test-decode is_slash (λ c. eqb c (code "/")) text (λ c h. refl) refl refl refl (λ c k h. sym (ne_eqb c (code "/") (λ q. omega arith)))

-- joining slashes commutes with reading codes back
pub joined-decode : (text : List ℕ) (slash : Bool) (cs : List ℕ) → map (decode text) (joined_codes_after slash cs) ≡ joined_after slash (map (decode text) cs)
unfolding joined_codes_after joined_after
joined-decode text slash [] = refl
joined-decode text slash (c ∷ cs) =
    rw (slash-decode text c)
    (go (slash && eqb c (code "/")) (joined_codes_after true cs) (joined_codes_after (eqb c (code "/")) cs)
    (joined-decode text true cs) (joined-decode text (eqb c (code "/")) cs))
  where
    go : (t : Bool) (a b : List ℕ) {x y : List Piece} → map (decode text) a ≡ x → map (decode text) b ≡ y
        → map (decode text) (if t then a else c ∷ b) ≡ (if t then x else decode text c ∷ y)
    go true a b p q = p
    go false a b p q = ap (λ (l : List Piece). decode text c ∷ l) q
