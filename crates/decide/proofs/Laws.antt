-- What the definitions of the whole answer say, by what the code has read.
use Rattle.std.proofs.Common.{Option, Some, None}
use Prim.Native.Nat.{ℕ, zero, suc, ◌+◌, ◌*◌, ◌≤◌, ◌<◌}
use Prim.Native.Char.{code}
use mathlib.Core.Path.{◌≡◌, refl, sym, ap, ◌∙◌}
use mathlib.Core.List.{List}
use mathlib.Core.Bool.{Bool, true, false, not}
use lib.ListN.{length, get_or}
use borrow.Author.Tests.{le-leb, lt-ltb, le-ltb}
use Rattle.scan.specs.Bytes.{same}
use Rattle.text.specs.Reading.{Reading, Read, Refused, nowhere}
use Rattle.pattern.specs.Expansions.{Variable}
use Rattle.pattern.specs.Faults.{pattern_fault}
use Rattle.pattern.specs.Table.{bytes_at, env}
use Rattle.matcher.specs.Walk.{path_fits}
use Rattle.statement.specs.Steps.{rules_from}
use Rattle.profile.specs.Profiles.{File, file_of}
use Rattle.profile.specs.Places.{Judged, Accepted, Rejected, judged_of, profiles_by, profiles_from, seen_file}
use Rattle.std.proofs.Common.{Result, Ok, Err}
use Rattle.text.specs.declared.Refusal.{Refusal}
use Rattle.profile.specs.declared.FileRead.{FileRead}
use Rattle.findings.specs.Findings.{Access, findings}
use Rattle.answer.specs.Answers.{answer_from, refusal}
use Rattle.answer.specs.declared.Answer.{Answer}
use Rattle.request.specs.Requests.{bad_asked, bad_path}
use Rattle.request.proofs.Laws.{path-short}
use Rattle.decide.specs.Decide.{answer_by, answer_in, answer_of}
use Rattle.decide.specs.Places.{found_from}
use Rattle.decide.specs.declared.Rules.{Rules}

-- ---- paths

-- a path that is not refused fits
pub good-fits : (s : List ℕ) → bad_path s ≡ false → path_fits s ≡ true
good-fits s e = le-leb (length s) 4095 (path-short s e)

-- ---- the profile of a name

module _ (s t : List ℕ) (k i : ℕ) (name : List ℕ) where
  pub found_here : same (bytes_at s t (4 * i)) name ≡ true → found_from s t (suc k) i name ≡ Some (record { at = record { 0 = get_or t (4 * i + 2) 0 }; count = get_or t (4 * i + 3) 0 })
  unfolding found_from
  found_here e = rw (e, found_from)

  pub found-later : same (bytes_at s t (4 * i)) name ≡ false → found_from s t (suc k) i name ≡ found_from s t k (i + 1) name
  unfolding found_from
  found-later e = rw (e, found_from)

pub found_none : (s t : List ℕ) (i : ℕ) (name : List ℕ) → found_from s t 0 i name ≡ None
unfolding found_from
found_none s t i name = refl

-- the answer of the rules that were found
abbrev pub answer_of_found : List Variable → Access → (asked : ℕ) → List ℕ → Option Rules → Answer
answer_of_found vs q asked s (Some r) = answer_from (findings vs q (rules_from r.count (pattern_fault vs) s r.at.0)) asked
answer_of_found vs q asked s None = refusal (nowhere 11)

pub answer-found : (vs : List Variable) (q : Access) (asked : ℕ) (s t : List ℕ) (k i : ℕ) (name : List ℕ)
    → answer_in vs q asked name (profiles_from vs s t k i) ≡ answer_of_found vs q asked s (found_from s t k i name)
unfolding answer_in profiles_by found_from
answer-found vs q asked s t zero i name = refl
answer-found vs q asked s t (suc k) i name = go (same (bytes_at s t (4 * i)) name) (answer-found vs q asked s t k (i + 1) name)
  where
    rules : Answer
    rules = answer_from (findings vs q (rules_from (get_or t (4 * i + 3) 0) (pattern_fault vs) s (get_or t (4 * i + 2) 0))) asked

    go : (b : Bool) → answer_in vs q asked name (profiles_from vs s t k (i + 1)) ≡ answer_of_found vs q asked s (found_from s t k (i + 1) name) →
        (elim b as (λ _. Answer) [ true ↦ rules | false ↦ answer_in vs q asked name (profiles_from vs s t k (i + 1)) ])
        ≡ answer_of_found vs q asked s (elim b as (λ _. Option Rules) [ true ↦ Some (record { at = record { 0 = get_or t (4 * i + 2) 0 }; count = get_or t (4 * i + 3) 0 }) | false ↦ found_from s t k (i + 1) name ])
    go true e = refl
    go false e = e

-- by what was found
pub answer-by : (vs : List Variable) (q : Access) (asked : ℕ) (s t : List ℕ) (k : ℕ) (name : List ℕ) (r : Option Rules) → r ≡ found_from s t k 0 name →
    (x : Option Rules) → r ≡ x → answer_in vs q asked name (profiles_from vs s t k 0) ≡ answer_of_found vs q asked s x
answer-by vs q asked s t k name r e x f = answer-found vs q asked s t k 0 name ∙ ap (answer_of_found vs q asked s) (sym e ∙ f)

-- ---- the text's judgement

abbrev pub answer_of_judged : Access → (asked : ℕ) → (name : List ℕ) → Judged → Answer
answer_of_judged q asked n (Accepted vs ps) = answer_in vs q asked n ps
answer_of_judged q asked n (Rejected r) = refusal r

pub answer-judged : (s : List ℕ) (x : Reading File) (n : List ℕ) (q : Access) (asked : ℕ) → answer_by s x n q asked ≡ answer_of_judged q asked n (judged_of s x)
unfolding judged_of
answer-judged s (Read f) n q asked = refl
answer-judged s (Refused number place) n q asked = refl

-- ---- the whole answer, by the order of refusals

module _ (text n path : List ℕ) (asked : ℕ) (owner : Bool) where
  pub answer-long : 65535 < length text → answer_of text n path asked owner ≡ refusal (nowhere 1)
  unfolding answer_of
  answer-long h = rw (lt-ltb 65535 (length text) h, answer_of)

  pub answer-path : length text ≤ 65535 → bad_path path ≡ true → answer_of text n path asked owner ≡ refusal (nowhere 2)
  unfolding answer_of
  answer-path h e = rw (le-ltb 65535 (length text) h, answer_of, e)

  pub answer-asked : length text ≤ 65535 → bad_path path ≡ false → bad_asked asked ≡ true → answer_of text n path asked owner ≡ refusal (nowhere 3)
  unfolding answer_of
  answer-asked h e k = rw (le-ltb 65535 (length text) h, answer_of, e, k)

  -- what was read decides
  module _ (h : length text ≤ 65535) (e : bad_path path ≡ false) (k : bad_asked asked ≡ false) (t : List ℕ) (r : Result FileRead Refusal) (g : seen_file text t r ≡ judged_of text (file_of text)) where
    abbrev access : Access
    access = record { path = path; owner = owner }

    answer-read : {j : Judged} → seen_file text t r ≡ j → answer_of text n path asked owner ≡ answer_of_judged access asked n j
    unfolding answer_of
    answer-read {j} f =
        rw (le-ltb 65535 (length text) h, answer_of, e, k)
        (answer-judged text (file_of text) n access asked ∙ ap (answer_of_judged access asked n) (sym g ∙ f))

    pub answer-rejected : (x : Refusal) → r ≡ Err x → answer_of text n path asked owner ≡ refusal x
    unfolding seen_file
    answer-rejected x f = answer-read {j = Rejected x} (rw f)

    pub answer-accepted : (x : FileRead) → r ≡ Ok x → {a : Answer} →
        a ≡ answer_in (env text t x.vars) access asked n (profiles_from (env text t x.vars) text x.profiles x.count 0) →
        a ≡ answer_of text n path asked owner
    unfolding seen_file
    answer-accepted x f i =
        let vs = env text t x.vars in
        i ∙ sym (answer-read {j = Accepted vs (profiles_from vs text x.profiles x.count 0)} (rw f))
