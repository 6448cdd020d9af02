-- A whole pattern against a path.
use Rattle.std.specs.Prelude.{ℕ, zero, suc, List, ◌≡◌, Bool, true, false, ◌&&◌, ◌||◌, length, take, drop, eqb, if◌then◌else◌}
use Rattle.scan.specs.Bytes.{every}
use Rattle.pattern.specs.Pieces.{Piece}
use Rattle.pattern.specs.Expansions.{Variable, is_literal, joined_after}
use Rattle.pattern.specs.Faults.{pattern_fault}
use Rattle.sizes.specs.Numbered.{Numbered, pattern_by}
use Rattle.expand.specs.Write.{text_fits}
use Rattle.matcher.specs.Match.{matches, matches_some, matches_exactly}
use Rattle.matcher.specs.Walk.{path_fits}
use Rattle.front.specs.Front.{beginning, front, slash_after}
use Rattle.glob.specs.declared.Matched.{Matched}

-- nothing is matched
abbrev pub no_match : Matched
no_match = record { some = false; exact = false }

-- the path is matched by the pattern, and exactly; a place that holds no good pattern matches nothing
unfoldable pub matched_of : (text : List ℕ) → List Variable → (pattern path : List ℕ) → Matched
matched_of text vs pattern path =
    if text_fits text && path_fits path && eqb (pattern_fault vs pattern) 0 then
    record { some = matches_some vs pattern path; exact = matches_exactly vs pattern path }
    else no_match

-- a pattern without fault that matches the path, and exactly where all its bytes, so many, are literals
pub record Hit (vs : List Variable) (pattern path : List ℕ) (literals : ℕ) : Type 0 where
  pub good : pattern_fault vs pattern ≡ 0
  pub some : matches_some vs pattern path ≡ true
  pub exact : matches_exactly vs pattern path ≡ eqb literals (length pattern)

-- ---- by number, under a table of sizes whatever it holds

-- one expansion, where a / stands before it, or not
unfoldable pub matched_by : (slash : Bool) → List Piece → (path : List ℕ) → Matched
matched_by slash x path = record { some = matches (joined_after slash x) path; exact = every is_literal x && matches (joined_after slash x) path }

-- p holds of some number below n
unfoldable pub some_below : (ℕ → Bool) → ℕ → Bool
some_below p zero = false
some_below p (suc n) = some_below p n || p n

-- expansion number d, cut to "1,024 pieces in an expansion"
abbrev pub matched_at : (slash : Bool) → Numbered → (path : List ℕ) → ℕ → Matched
matched_at slash a path d = matched_by slash (take 1024 (a.nth d)) path

-- some expansion with a number below k
abbrev pub matched_below : (slash : Bool) → Numbered → (path : List ℕ) → ℕ → Matched
matched_below slash a path k =
    record { some = some_below (λ d. (matched_at slash a path d).some) k; exact = some_below (λ d. (matched_at slash a path d).exact) k }

abbrev pub matched_all : (slash : Bool) → Numbered → (path : List ℕ) → Matched
matched_all slash a path = matched_below slash a path a.size.count

-- what stands behind the front of the pattern against what stands behind as many bytes of the path
unfoldable pub matched_behind : (text vars : List ℕ) (n : ℕ) (table pattern path : List ℕ) → Matched
matched_behind text vars n table pattern path =
    matched_all (slash_after false (front pattern)) (pattern_by text vars n table (drop (length (front pattern)) pattern)) (drop (length (front pattern)) path)

-- a text or path too long is not looked at, nor is a path that does not begin with the front of the pattern
unfoldable pub matched_in : (text vars : List ℕ) (n : ℕ) (table pattern path : List ℕ) → Matched
matched_in text vars n table pattern path =
    if text_fits text && path_fits path && beginning (front pattern) path then matched_behind text vars n table pattern path else no_match
