-- The asked profile of a text: its rules, and their findings on a request.
use Rattle.std.specs.Prelude.{ℕ, ◌≡◌, List, [], ◌∷◌, Bool, true, false, ◌||◌, Ok}
use Rattle.scan.specs.Bytes.{same}
use Rattle.text.specs.Reading.{Reading, Read, Refused}
use Rattle.rule.specs.Rules.{Rule}
use Rattle.preamble.specs.Variables.{final_sets}
use Rattle.profile.specs.Profiles.{Profile, File, file_of}
use Rattle.findings.specs.Findings.{Access, Findings, findings}
use Rattle.answer.specs.declared.Answer.{Answer}

-- some profile has this name
unfoldable pub named : (name : List ℕ) → List Profile → Bool
named n [] = false
named n (p ∷ ps) = same p.name n || named n ps

-- the rules of the profile of this name; none where no profile has it
unfoldable pub rules_of : (name : List ℕ) → List Profile → List Rule
rules_of n [] = []
rules_of n (p ∷ ps) = elim (same p.name n) [ true ↦ p.rules | false ↦ rules_of n ps ]

-- the findings of these rules under the text's variables; those of no rule where the text is refused
abbrev pub findings_by : Reading File → (name : List ℕ) → Access → Findings
findings_by (Read f) n q = findings (final_sets [] f.preamble) q (rules_of n f.profiles)
findings_by (Refused number place) n q = findings [] q []

abbrev pub findings_of : (text name path : List ℕ) (owner : Bool) → Findings
findings_of text n path owner = findings_by (file_of text) n (record { path = path; owner = owner })

-- "Unless a numbered refusal is given"
abbrev pub Given : Answer → Type 0
Given a = a.verdict ≡ Ok tt
