use mathlib.Core.Path.{◌≡◌}
use mathlib.Core.Bool.{false}
use mathlib.Core.List.{map}
use Prim.Native.Nat.{ℕ, ◌≤◌}
use lib.ListN.{length, get_or, take}
use Rattle.pattern.specs.Codes.{decode}
use Rattle.matcher.specs.Match.{matches}
use Rattle.matcher.proofs.walk_marks.Given as goal

abbrev pub invariant-loop-code : goal.invariant-loop-code
invariant-loop-code g l =
    (j : ℕ) → j ≤ length l.path → get_or l.marks j false ≡ matches (map (decode l.text) (take l.code-index l.codes)) (take j l.path)
