-- Bytes as numbers, words as lists of them, runs of one kind.
use Rattle.std.specs.Prelude.{◌≡◌, ℕ, suc, ◌+◌, ◌-◌, ◌<◌, List, [] as []ᴸ, ◌∷◌ as ◌∷ᴸ◌, Bool, true, false, ◌||◌, ◌&&◌, length, take, drop, eqb, leb}
use Prim.Native.Char.{code}
use Prim.Native.String.{String, [], ◌∷◌}

-- the bytes of an ASCII text
unfoldable pub bytes : String → List ℕ
bytes [] = []ᴸ
bytes (c ∷ s) = code c ∷ᴸ bytes s

-- every element is of the kind p; some element is
unfoldable pub every : {A : Type 0} → (A → Bool) → List A → Bool
every p []ᴸ = true
every p (b ∷ᴸ s) = p b && every p s

unfoldable pub some : {A : Type 0} → (A → Bool) → List A → Bool
some p []ᴸ = false
some p (b ∷ᴸ s) = p b || some p s

-- two lists hold the same bytes
unfoldable pub same : List ℕ → List ℕ → Bool
same []ᴸ []ᴸ = true
same []ᴸ (b ∷ᴸ t) = false
same (a ∷ᴸ s) []ᴸ = false
same (a ∷ᴸ s) (b ∷ᴸ t) = elim (eqb a b) [ true ↦ same s t | false ↦ false ]

-- a byte stands in a list
abbrev pub holds : ℕ → List ℕ → Bool
holds a s = some (eqb a) s

-- a list begins with a byte
abbrev pub begins : ℕ → List ℕ → Bool
begins a []ᴸ = false
begins a (b ∷ᴸ s) = eqb b a

-- a list begins with these bytes
abbrev pub starts_with : (word : List ℕ) → List ℕ → Bool
starts_with w s = same (take (length w) s) w

abbrev pub is_empty : List ℕ → Bool
is_empty []ᴸ = true
is_empty (b ∷ᴸ s) = false

-- the bytes from place a to before place e
abbrev pub span : List ℕ → (a e : ℕ) → List ℕ
span s a e = take (e - a) (drop a s)

-- how many bytes from the front are of the kind p
unfoldable pub run : (ℕ → Bool) → List ℕ → ℕ
run p []ᴸ = 0
run p (b ∷ᴸ s) = elim (p b) [ true ↦ suc (run p s) | false ↦ 0 ]

-- letters and digits, of ASCII
abbrev pub between : ℕ → ℕ → ℕ → Bool
between low high b = leb low b && leb b high

abbrev pub letter : ℕ → Bool
letter b = between (code "a") (code "z") b || between (code "A") (code "Z") b

abbrev pub digit : ℕ → Bool
digit b = between (code "0") (code "9") b

-- a place ends the run, from a place on, of the bytes that a test takes; what the test gives is told by a relation
abbrev pub EndsRun : (ℕ → Bool → Type 0) → List ℕ → (at end : ℕ) → Type 0
EndsRun gives s at end = (p : ℕ → Bool) → ((b : ℕ) (r : Bool) → b < 256 → gives b r → r ≡ p b) → end ≡ at + run p (drop at s)
