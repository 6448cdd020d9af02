-- What a walk over literals and what stands between them measures; where each ends and its size are told by relations.
use Rattle.std.specs.Prelude.{◌≡◌, ℕ, ◌+◌, ◌≤◌, ◌<◌, ◌^◌, List, [], ◌∷◌, map, length, drop}
use Rattle.scan.specs.Bytes.{run, span}
use Rattle.pattern.specs.Pieces.{Byte}
use Rattle.pattern.specs.Literals.{ordinary}
use Rattle.sizes.specs.declared.Size.{Size}
use Rattle.sizes.specs.Sizes.{size_of, times_of, nil_size}

-- what stands at a place ends behind it
abbrev pub Ahead : (ℕ → ℕ → Type 0) → List ℕ → Type 0
Ahead ends s = (i next : ℕ) → i < 2 ^ 64 → i < length s → ends i next → (i < next) × (next ≤ length s)

-- left is the size of what stands from a place on: of literals, of nothing, of what is no literal by itself
pub record Left (ends : ℕ → ℕ → Type 0) (sizes : ℕ → Size → Type 0) (s : List ℕ) (left : ℕ → Size) : Type 0 where
  pub literals : (i end : ℕ) → end ≡ i + run ordinary (drop i s) → left i ≡ times_of (size_of (map Byte (span s i end) ∷ [])) (left end)
  pub nothing : (i : ℕ) → length s ≤ i → left i ≡ nil_size
  pub other : (i next : ℕ) (z : Size) → i < 2 ^ 64 → i < length s → ends i next → sizes i z → left i ≡ times_of z (left next)

abbrev pub Sized : (ℕ → ℕ → Type 0) → (ℕ → Size → Type 0) → List ℕ → Size → Type 0
Sized ends sizes s result = (left : ℕ → Size) → Left ends sizes s left → result ≡ left 0
