-- What one rule more adds to what was gathered, by how its pattern matches.
use Rattle.std.specs.Prelude.{ℕ, ◌≤◌, ◌≡◌, List, Bool, true, not, ◌||◌, ◌&&◌, length, if◌then◌else◌}
use Rattle.matcher.specs.Walk.{path_fits}
use Rattle.pattern.specs.Expansions.{Variable}
use Rattle.pattern.specs.Faults.{pattern_fault}
use Rattle.expand.specs.Write.{text_fits}
use Rattle.glob.specs.declared.Matched.{Matched}
use Rattle.statement.specs.Steps.{rules_from}
use Rattle.findings.specs.Findings.{Access, findings}
use Rattle.rule.specs.Rules.{Rule}
use Rattle.findings.specs.Weighed.{Weighed, allowing, denying, nothing, weighed}

-- a rule more, by how its pattern matches and whether the request is the owner's
unfoldable pub weighed_by : (owner : Bool) → Matched → Rule → Weighed → Weighed
weighed_by owner m r w =
    if (not r.owner || owner) && m.some then (if r.deny then denying r w else allowing m.exact r w) else w

-- the text and the path are within the sizes of document 01
pub record Fits (text path : List ℕ) : Type 0 where
  pub short : length text ≤ 65535
  pub fits : path_fits path ≡ true

-- what is gathered of k rules from a place on; nothing where the text or the path is too long to be answered
unfoldable pub gathered_of : (text : List ℕ) → List Variable → Access → (k at : ℕ) → Weighed
gathered_of text vs a k at =
    if text_fits text && path_fits a.path then weighed (findings vs a (rules_from k (pattern_fault vs) text at)) else nothing
