-- Asking as the code does it: what is known before the walk, and what a record adds.
use Rattle.std.specs.Prelude.{ℕ, zero, suc, min, List, [], ◌∷◌, Bool, true, not, ◌||◌, ◌&&◌, length, get_or, drop, eqb, ltb, if◌then◌else◌, Option, Some, None}
use Rattle.text.specs.Reading.{nowhere}
use Rattle.perms.specs.declared.Perms.{Perms}
use Rattle.request.specs.Requests.{bad_asked, bad_path}
use Rattle.pattern.specs.Expansions.{Variable}
use Rattle.rule.specs.Rules.{Rule}
use Rattle.words.specs.Words.{is_out, words_of}
use Rattle.words.specs.declared.Words.{Words}
use Rattle.glob.specs.Glob.{matched_of, no_match}
use Rattle.glob.specs.declared.Matched.{Matched}
use Rattle.weigh.specs.Weigh.{weighed_by}
use Rattle.findings.specs.Findings.{Access}
use Rattle.findings.specs.Weighed.{Weighed}
use Rattle.answer.specs.Answers.{refusal}
use Rattle.answer.specs.Parts.{answer_to}
use Rattle.answer.specs.declared.Answer.{Answer}
use Rattle.entries.specs.Entries.{Entry, names_from}
use Rattle.asking.specs.Asking.{by_name, good_end}
use Rattle.asking.specs.declared.Query.{Query}

-- the number of the first of these names that is n, counted from 1 and i; 0 where there is none
abbrev pub number_from : (n : List ℕ) → (i : ℕ) → List (List ℕ) → ℕ
number_from = by_name zero suc

-- the same counted from i alone
abbrev pub first_named : (n : List ℕ) → (i : ℕ) → List (List ℕ) → Option ℕ
first_named = by_name None Some

-- 1, 2 and 3, or 0
unfoldable pub refused_for : (text path : List ℕ) → (asked : ℕ) → ℕ
refused_for text path asked = if ltb 65535 (length text) then 1 else if bad_path path then 2 else if bad_asked asked then 3 else 0

-- a request that is refused has no record to walk
abbrev pub refused_query : (number : ℕ) → (path : List ℕ) → Perms → (owner : Bool) → Query
refused_query k path asked owner =
    record { refused = k; profile = 0; variables = 0; count = 0; words = words_of path; asked = asked; owner = owner }

abbrev pub query_by : (number : ℕ) → (head : List ℕ) → (records : ℕ) → (path : List ℕ) → Perms → (owner : Bool) → Query
query_by zero head records path asked owner = refused_query 11 path asked owner
query_by (suc i) head records path asked owner =
    record {
      refused = 0;
      profile = i;
      variables = get_or head 1248 0;
      count = min records (get_or head 1250 0);
      words = words_of path;
      asked = asked;
      owner = owner;
    }

unfoldable pub query_of : (text head : List ℕ) → (records : ℕ) → (name path : List ℕ) → Perms → (owner : Bool) → Query
query_of text head records n path asked owner =
    if eqb (refused_for text path asked.0) 0 then
    query_by (number_from n 0 (names_from text (drop 1120 head) (min 32 (get_or head 1249 0)) 0)) head records path asked owner
    else refused_query (refused_for text path asked.0) path asked owner

-- a record that adds nothing: another profile's, or one whose front's words are not the path's
unfoldable pub out_of : (words : Words) → (i : ℕ) → Entry → Bool
out_of words i e = not (eqb e.profile i) || is_out words e.front

-- a match, where a condition holds
abbrev pub match_if : Bool → Matched → Matched
match_if b m = if b && m.some then record { some = true; exact = m.exact } else no_match

-- how the rule of a record matches that is not out
unfoldable pub matched_rule : (text : List ℕ) → List Variable → Access → Rule → Matched
matched_rule text vs q r = match_if (good_end r && (not r.owner || q.owner)) (matched_of text vs r.pattern q.path)

-- what another record adds
unfoldable pub weighed_entry : (text : List ℕ) → List Variable → Access → Entry → Weighed → Weighed
weighed_entry text vs q e w =
    if good_end e.rule then
    weighed_by q.owner (matched_of text vs e.rule.pattern q.path) e.rule w
    else w

-- what all add
unfoldable pub gathered_in : (text : List ℕ) → List Variable → Access → Words → (i : ℕ) → List Entry → Weighed → Weighed
gathered_in text vs q words i [] w = w
gathered_in text vs q words i (e ∷ es) w =
    gathered_in text vs q words i es (if out_of words i e then w else weighed_entry text vs q e w)

-- the answer in the end
unfoldable pub concluded : Query → Weighed → Answer
concluded q w = if eqb q.refused 0 then answer_to w q.asked.0 else refusal (nowhere q.refused)
