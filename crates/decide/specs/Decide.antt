-- The answer to a text, a profile name and a request.
use Rattle.std.specs.Prelude.{ℕ, List, [], ◌∷◌, Bool, true, false, length, ltb}
use Rattle.scan.specs.Bytes.{same}
use Rattle.text.specs.Reading.{Reading, Read, Refused, nowhere, refusal_at}
use Rattle.request.specs.Requests.{bad_asked, bad_path}
use Rattle.pattern.specs.Expansions.{Variable}
use Rattle.preamble.specs.Variables.{final_sets}
use Rattle.profile.specs.Profiles.{File, Profile, file_of}
use Rattle.findings.specs.Findings.{Access, findings}
use Rattle.answer.specs.Answers.{answer_from, refusal}
use Rattle.answer.specs.declared.Answer.{Answer}

-- the answer of the profile of that name; 11: "no profile with that name"
unfoldable pub answer_in : List Variable → Access → (asked : ℕ) → (name : List ℕ) → List Profile → Answer
answer_in vs q asked n [] = refusal (nowhere 11)
answer_in vs q asked n (p ∷ ps) =
    elim (same p.name n) [
      | true ↦ answer_from (findings vs q p.rules) asked
      | false ↦ answer_in vs q asked n ps
    ]

abbrev pub answer_by : List ℕ → Reading File → (name : List ℕ) → Access → (asked : ℕ) → Answer
answer_by text (Read f) n q asked = answer_in (final_sets [] f.preamble) q asked n f.profiles
answer_by text (Refused number place) n q asked = refusal (refusal_at text number place)

-- "Order: 1, 2, 3, then the text, first offending token in reading order, then 11."
unfoldable pub answer_of : (text name path : List ℕ) (asked : ℕ) (owner : Bool) → Answer
answer_of text n path asked owner =
    elim (ltb 65535 (length text)) [
      | true ↦ refusal (nowhere 1)
      | false ↦
          elim (bad_path path) [
            | true ↦ refusal (nowhere 2)
            | false ↦
                elim (bad_asked asked) [
                  | true ↦ refusal (nowhere 3)
                  | false ↦
                      answer_by text (file_of text) n (record { path = path; owner = owner }) asked
                ]
          ]
    ]
