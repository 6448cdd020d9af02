-- A pattern that is told of as it is written, behind its front.
use Rattle.std.specs.Prelude.{if◌then◌else◌, Some}
use Prim.Native.Nat.{ℕ, ◌≤◌, ◌<◌}
use Prim.Native.Char.{code}
use mathlib.Core.Path.{◌≡◌, sym, ap, ◌∙◌}
use mathlib.Core.List.{List, [], ◌∷◌, ◌++◌, map}
use mathlib.Core.Bool.{Bool, true, false, ◌&&◌, and-true}
use native.Mathlib.Omega.{arith}
use lib.ListN.{length, get_or, drop, length-append, length-map, length-drop}
use lib.Dec.{eqb}
use borrow.Author.Tests.{eq-eqb}
use Rattle.scan.proofs.Bools.{and_left, and_right}
use Rattle.pattern.specs.Pieces.{Piece, Byte}
use Rattle.pattern.specs.Items.{items}
use Rattle.pattern.specs.Expansions.{Variable, begins_slash}
use Rattle.pattern.specs.Faults.{pattern_fault}
use Rattle.expand.specs.Write.{text_fits}
use Rattle.matcher.specs.Match.{matches_some, matches_exactly}
use Rattle.matcher.specs.Walk.{path_fits}
use Rattle.matcher.proofs.Front.{ends}
use Rattle.front.specs.declared.Led.{Led}
use Rattle.front.specs.Front.{plain_after, front_after, front, lead_of}
use Rattle.front.proofs.Laws.{some_after_lem, exact-after, lead-len, lead-slash, rest-after, rest-exactly}
use Rattle.direct.specs.declared.Outcome.TheVariants as outcome
use Rattle.direct.specs.Direct.{outcome_of}
use Rattle.direct.proofs.Laws.{Hits, plain_first, told-miss, told-hit, straight-some, straight-exactly, straight-good, front_items, front-stops}
use Rattle.glob.specs.declared.Matched.{Matched}
use Rattle.glob.specs.Glob.{matched_of}
use Rattle.glob.proofs.Laws.{len-pattern}

-- a front that is not empty begins with the pattern's first byte
front-first : (s : List ℕ) (ps : List Piece) → 0 < length (front s) → get_or s 0 0 ≡ code "/" → begins_slash (map Byte (front s) ++ ps) ≡ true
unfolding front_after
front-first [] ps h e = absurd (omega arith)
front-first (b ∷ s) ps h e = go (plain_after false b) h
  where
    go : (t : Bool) → 0 < length (if t then b ∷ front_after (eqb b (code "/")) s else []) → begins_slash (map Byte (if t then b ∷ front_after (eqb b (code "/")) s else []) ++ ps) ≡ true
    go false h = absurd (omega arith)
    go true h = eq-eqb b (code "/") e

module _ (vs : List Variable) (s path : List ℕ) {l : Led} (led : lead_of false s path ≡ Some l) where
  pub direct-miss : outcome_of l.slash (drop l.len s) (drop l.len path) ≡ outcome.Miss → matches_some vs s path ≡ false
  direct-miss o =
      some_after_lem vs s path ∙ rest-after false s path led vs ∙ told-miss (drop l.len path) (drop l.len s) l.slash o vs

  -- a hit of a pattern that is short enough and begins with a /
  module _ (o : outcome_of l.slash (drop l.len s) (drop l.len path) ≡ outcome.Hit) where
    hits : Hits l.slash (drop l.len s) (drop l.len path)
    hits = told-hit (drop l.len path) (drop l.len s) l.slash o

    pub direct-some : matches_some vs s path ≡ true
    direct-some =
        some_after_lem vs s path
        ∙ rest-after false s path led vs
        ∙ straight-some vs (drop l.len s) hits.pieces hits.are l.slash (drop l.len path)
        ∙ hits.whole

    plain-none : plain_first l.slash (drop l.len s) ≡ false
    plain-none = rw (lead-len false s path led, lead-slash false s path led) (front-stops false s)

    pub direct-exactly : matches_exactly vs s path ≡ eqb l.len (length s)
    direct-exactly =
        exact-after vs s path
        ∙ rest-exactly false s path led vs
        ∙ straight-exactly vs (drop l.len s) hits.pieces hits.are l.slash (drop l.len path)
        ∙ rw (hits.whole, hits.literal plain-none, ends s l.len (len-pattern s path led)) (and-true (eqb l.len (length s)))

    pub direct_good : 0 < l.len → length s ≤ 1024 → get_or s 0 0 ≡ code "/" → pattern_fault vs s ≡ 0
    direct_good h n e =
        let k = lead-len false s path led in
        let q = hits.pieces in
        let w : length (map Byte (front s) ++ q) ≤ length s =
        omega (arith, length-append (map Byte (front s)) q, length-map (front s) Byte, hits.short, length-drop l.len s, len-pattern s path led) in
        straight-good vs s (map Byte (front s) ++ q) (front_items false s q (ap (λ (n : ℕ). items 0 (drop n s)) (sym k) ∙ hits.are)) (omega arith) n (front-first s q (omega arith) e)

-- what is matched
pub direct-matched : (text : List ℕ) (vs : List Variable) (s path : List ℕ) {exact : Bool} → (text_fits text && path_fits path) ≡ true → pattern_fault vs s ≡ 0 →
    matches_some vs s path ≡ true → matches_exactly vs s path ≡ exact → ◌≡◌ {A = Matched} (record { some = true; exact = exact }) (matched_of text vs s path)
unfolding matched_of
direct-matched text vs s path fits good m x =
    rw (and_left (text_fits text) (path_fits path) fits, and_right (text_fits text) (path_fits path) fits, eq-eqb (pattern_fault vs s) 0 good, m, x)
