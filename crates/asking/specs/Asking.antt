-- The answer of what was read once, to a profile name and a request.
use Rattle.std.specs.Prelude.{ℕ, ◌+◌, List, [], ◌∷◌, map, Bool, true, false, not, ◌&&◌, length, drop, eqb, ltb, leb, if◌then◌else◌, Option}
use Rattle.scan.specs.Bytes.{same}
use Rattle.text.specs.Reading.{nowhere}
use Rattle.request.specs.Requests.{bad_asked, bad_path}
use Rattle.names.specs.Names.{name_form}
use Rattle.modes.specs.declared.Mode.{Mode}
use Rattle.rule_tail.specs.Tails.{takes_target}
use Rattle.pattern.specs.Expansions.{Variable}
use Rattle.pattern.specs.Faults.{pattern_fault}
use Rattle.family.specs.Members.{those}
use Rattle.rule.specs.Rules.{Rule}
use Rattle.words.specs.Words.{is_out, words_of}
use Rattle.matcher.specs.Match.{matches_exactly}
use Rattle.glob.specs.Glob.{no_match}
use Rattle.glob.specs.declared.Matched.{Matched}
use Rattle.findings.specs.Findings.{Access, applies, findings}
use Rattle.answer.specs.Answers.{answer_from, refusal}
use Rattle.answer.specs.declared.Answer.{Answer}
use Rattle.entries.specs.Entries.{Entry, Policy}

-- none, or a name after a p or c mode: "TARGET has the form of a name", "over 255 bytes are 9"
unfoldable pub good_target : Option Mode → List ℕ → Bool
good_target tr [] = true
good_target tr (b ∷ s) = takes_target tr && name_form true (b ∷ s) && leb (length (b ∷ s)) 255

-- what stands behind a good pattern: some of the seven permissions, and a good target
unfoldable pub good_end : Rule → Bool
good_end r = ltb r.perms.0 128 && good_target r.transition r.target

-- "a record whose places don't hold a good pattern and target matches nothing"
unfoldable pub good : List Variable → Rule → Bool
good vs r = eqb (pattern_fault vs r.pattern) 0 && good_end r

-- a record counts for profile i: it is one of that profile's, the words of its front are those of the path, and its places hold what is good
unfoldable pub counts : List Variable → (path : List ℕ) → (i : ℕ) → Entry → Bool
counts vs path i e = eqb e.profile i && not (is_out (words_of path) e.front) && good vs e.rule

unfoldable pub rules_for : List Variable → (path : List ℕ) → (i : ℕ) → List Entry → List Rule
rules_for vs path i es = map (λ (e : Entry). e.rule) (those (counts vs path i) es)

-- what is told of the first of these names that is n, by its number, counted from i; or this, where there is none
unfoldable pub by_name : {A : Type 0} → A → (ℕ → A) → (n : List ℕ) → (i : ℕ) → List (List ℕ) → A
by_name none f n i [] = none
by_name none f n i (m ∷ ms) = elim (same m n) [ true ↦ f i | false ↦ by_name none f n (i + 1) ms ]

-- the answer of the first profile of that name, from profile i on; 11: "no profile with that name"
unfoldable pub answer_among : List Variable → Access → (asked : ℕ) → (name : List ℕ) → List Entry → (i : ℕ) → List (List ℕ) → Answer
answer_among vs q asked n es = by_name (refusal (nowhere 11)) (λ i. answer_from (findings vs q (rules_for vs q.path i es)) asked) n

-- "Asking walks these, the table and the text, refusing 1, 2, 3, then 11."
unfoldable pub asked_of : (text : List ℕ) → Policy → (name path : List ℕ) (asked : ℕ) (owner : Bool) → Answer
asked_of text p n path asked owner =
    elim (ltb 65535 (length text)) [
      | true ↦ refusal (nowhere 1)
      | false ↦
          elim (bad_path path) [
            | true ↦ refusal (nowhere 2)
            | false ↦
                elim (bad_asked asked) [
                  | true ↦ refusal (nowhere 3)
                  | false ↦
                      answer_among p.variables (record { path = path; owner = owner }) asked n p.entries 0 p.names
                ]
          ]
    ]

-- ---- one record

-- "A rule matches a request when its pattern matches and, if it says owner, the request's owner mark is set"; of a record that counts
-- for profile i, with whether it "matches exactly"
unfoldable pub match_by : List Variable → Access → (i : ℕ) → Entry → Matched
match_by vs q i e =
    if counts vs q.path i e && applies vs q e.rule then record { some = true; exact = matches_exactly vs e.rule.pattern q.path }
    else no_match

-- how a record matches a request, whatever is asked for: not, where the request is refused 1, 2 or 11
unfoldable pub match_of : (text : List ℕ) → Policy → (name path : List ℕ) (owner : Bool) → Entry → Matched
match_of text p n path owner e =
    if ltb 65535 (length text) then no_match
    else if bad_path path then no_match
    else by_name no_match (λ i. match_by p.variables (record { path = path; owner = owner }) i e) n 0 p.names

-- of the first of these records; not, where there is none
abbrev pub first_match : (text : List ℕ) → Policy → (name path : List ℕ) (owner : Bool) → List Entry → Matched
first_match text p n path owner [] = no_match
first_match text p n path owner (e ∷ es) = match_of text p n path owner e

-- how record number k matches
abbrev pub match_at : (text : List ℕ) → Policy → (name path : List ℕ) (owner : Bool) → (k : ℕ) → Matched
match_at text p n path owner k = first_match text p n path owner (drop k p.entries)
