-- `matches` in one pass over the path for each piece, from the last piece to the first.
use mathlib.Core.Path.{◌≡◌, refl, sym, ap, ◌∙◌}
use mathlib.Core.Bool.{Bool, true, false, ◌&&◌, ◌||◌}
use mathlib.Core.List.{List, [], ◌∷◌}
use Prim.Native.Nat.{ℕ}
use Rattle.scan.specs.Bytes.{is_empty}
use Rattle.pattern.specs.Pieces.{Piece}
use Rattle.matcher.specs.Match.{matches}
use Rattle.matcher.specs.Walk.{repeats_of, takes_of}
use Rattle.matcher.proofs.Laws.{matches-nil, matches-one, matches-many}

abbrev pub first : List Bool → Bool
first [] = false
first (m ∷ ms) = m

abbrev pub rest : List Bool → List Bool
rest [] = []
rest (m ∷ ms) = ms

-- f of each suffix of a list, from the whole of it to the empty one
abbrev pub suffixes : (List ℕ → Bool) → List ℕ → List Bool
suffixes f [] = f [] ∷ []
suffixes f (b ∷ s) = f (b ∷ s) ∷ suffixes f s

-- a function of a list of marks, computed first as far as its first mark
abbrev pub eager : (List Bool → List Bool) → List Bool → List Bool
eager f [] = f []
eager f (true ∷ ms) = f (true ∷ ms)
eager f (false ∷ ms) = f (false ∷ ms)

-- the mark of a suffix b ∷ s for a piece and what follows it: ms marks the suffixes that what follows matches, later the shorter ones
abbrev pub longer : (many ok : Bool) (ms later : List Bool) → Bool
longer true ok ms later = first ms || (ok && first later)
longer false ok ms later = ok && first (rest ms)

-- the marks of all suffixes for a piece and what follows it
unfoldable pub back : Piece → List ℕ → List Bool → List Bool
back p [] ms = (repeats_of p && first ms) ∷ []
back p (b ∷ s) ms = eager (λ later. longer (repeats_of p) (takes_of p b) ms later ∷ later) (back p s (rest ms))

unfoldable pub alive : List Piece → List ℕ → List Bool
alive [] s = suffixes is_empty s
alive (p ∷ ps) s = eager (back p s) (alive ps s)

eager-same : (f : List Bool → List Bool) (ms : List Bool) → eager f ms ≡ f ms
eager-same f [] = refl
eager-same f (true ∷ ms) = refl
eager-same f (false ∷ ms) = refl

first-suffixes : (f : List ℕ → Bool) (s : List ℕ) → first (suffixes f s) ≡ f s
first-suffixes f [] = refl
first-suffixes f (b ∷ s) = refl

longer-right : (p : Piece) (ps : List Piece) (b : ℕ) (s : List ℕ) →
    longer (repeats_of p) (takes_of p b) (suffixes (matches ps) (b ∷ s)) (suffixes (matches (p ∷ ps)) s) ≡ matches (p ∷ ps) (b ∷ s)
longer-right p ps b s = go (repeats_of p) refl
  where
    go : (r : Bool) → repeats_of p ≡ r → longer r (takes_of p b) (suffixes (matches ps) (b ∷ s)) (suffixes (matches (p ∷ ps)) s) ≡ matches (p ∷ ps) (b ∷ s)
    go true e = rw (first-suffixes (matches (p ∷ ps)) s, matches-many p ps b s e)
    go false e = rw (first-suffixes (matches ps) s, matches-one p ps b s e)

back-right : (p : Piece) (ps : List Piece) (s : List ℕ) → back p s (suffixes (matches ps) s) ≡ suffixes (matches (p ∷ ps)) s
unfolding back
back-right p ps [] = ap (λ (a : Bool). a ∷ []) (sym (matches-nil p ps))
back-right p ps (b ∷ s) =
    eager-same (λ later. longer (repeats_of p) (takes_of p b) (suffixes (matches ps) (b ∷ s)) later ∷ later) (back p s (suffixes (matches ps) s))
    ∙ rw (back-right p ps s, longer-right p ps b s)

alive-right : (ps : List Piece) (s : List ℕ) → alive ps s ≡ suffixes (matches ps) s
unfolding alive matches
alive-right [] s = refl
alive-right (p ∷ ps) s = eager-same (back p s) (alive ps s) ∙ rw (alive-right ps s) (back-right p ps s)

pub matches-alive : (ps : List Piece) (s : List ℕ) → matches ps s ≡ first (alive ps s)
matches-alive ps s = sym (rw (alive-right ps s) (first-suffixes (matches ps) s))
