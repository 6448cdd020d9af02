-- Which records match a request: of a text that was read those whose rule matches, in document 01's words; and they fix the answer.
use Rattle.std.specs.Prelude.{if◌then◌else◌}
use Prim.Native.Nat.{ℕ, zero, suc, ◌+◌, ◌≤◌, min}
use mathlib.Core.Path.{◌≡◌, refl, sym, ap, ap₂, subst, ◌∙◌}
use mathlib.Core.List.{List, [], ◌∷◌, ◌++◌, map, map-append}
use mathlib.Core.Bool.{Bool, true, false, not, ◌&&◌}
use lib.ListN.{length}
use lib.Dec.{eqb, ltb}
use borrow.Author.Tests.{le-ltb}
use Rattle.scan.specs.Bytes.{every}
use Rattle.scan.proofs.Bools.{and_left, and_right}
use Rattle.text.specs.Reading.{Read, nowhere}
use Rattle.request.specs.Requests.{bad_asked, bad_path}
use Rattle.family.specs.Members.{those}
use Rattle.pattern.specs.Expansions.{Variable}
use Rattle.matcher.specs.Match.{matches_exactly}
use Rattle.glob.specs.Glob.{no_match}
use Rattle.glob.specs.declared.Matched.{Matched}
use Rattle.rule.specs.Rules.{Rule}
use Rattle.findings.specs.Findings.{Access, applies, findings}
use Rattle.answer.specs.Answers.{answer_from, refusal}
use Rattle.answer.specs.declared.Answer.{Answer}
use Rattle.preamble.specs.Variables.{final_sets}
use Rattle.profile.specs.Profiles.{File, Profile, file_within}
use Rattle.entries.specs.Entries.{Accepted, Entry, Policy, entries_from, entry, policy_of, read_of}
use Rattle.asking.specs.Asking.{answer_among, asked_of, by_name, counts, good, match_by, match_of, rules_for}
use Rattle.asking.specs.Steps.{number_from}
use Rattle.asking.proofs.Laws.{name-number, numbered}
use Rattle.agreement.proofs.Adding.{guarded, holding}
use Rattle.agreement.proofs.Agreement.{out-not-applies, out_rule, read-file}
use Rattle.agreement.proofs.Good.{file-good}

-- of those that count, what is kept of all that pass a second test is all of them
those-kept : {A B : Type 0} (f : A → B) (c k : A → Bool) (p : B → Bool) → ((x : A) → k x ≡ (c x && p (f x))) →
    (xs : List A) → those p (map f (those c xs)) ≡ those p (map f (those c (those k xs)))
unfolding those
those-kept f c k p h [] = refl
those-kept {A} {B} f c k p h (x ∷ xs) = go (c x) refl (p (f x)) refl (those-kept f c k p h xs)
  where
    go : (a : Bool) → c x ≡ a → (b : Bool) → p (f x) ≡ b → those p (map f (those c xs)) ≡ those p (map f (those c (those k xs))) →
        those p (map f (those c (x ∷ xs))) ≡ those p (map f (those c (those k (x ∷ xs))))
    go true d true e t = let g : k x ≡ true = h x ∙ ap₂ ◌&&◌ d e in rw (g, those, d, those, e, those) (ap (λ (l : List B). f x ∷ l) t)
    go true d false e t = let g : k x ≡ false = h x ∙ ap₂ ◌&&◌ d e in rw (g, those, d, those, e) t
    go false d b e t = let g : k x ≡ false = h x ∙ ap₂ ◌&&◌ d e in rw (g, those, d) t

module _ (vs : List Variable) (q : Access) (i : ℕ) where
  match-counts : (e : Entry) → (match_by vs q i e).some ≡ (counts vs q.path i e && applies vs q e.rule)
  unfolding match_by
  match-counts e = go (counts vs q.path i e && applies vs q e.rule)
    where
      go : (b : Bool) → (if b then record { some = true; exact = matches_exactly vs e.rule.pattern q.path } else no_match).some ≡ b
      go true = refl
      go false = refl

  kept : (es : List Entry) → findings vs q (rules_for vs q.path i es) ≡ findings vs q (rules_for vs q.path i (those (λ e. (match_by vs q i e).some) es))
  unfolding findings rules_for
  kept es = rw (those-kept (λ (e : Entry). e.rule) (counts vs q.path i) (λ e. (match_by vs q i e).some) (applies vs q) match-counts es)

module _ (vs : List Variable) (q : Access) (asked : ℕ) (n : List ℕ) (es : List Entry) (names : List (List ℕ)) where
  abbrev answers : List Entry → ℕ → Answer
  answers fs i = answer_from (findings vs q (rules_for vs q.path i fs)) asked

  abbrev among : List Entry → Answer
  among fs = by_name (refusal (nowhere 11)) (answers fs) n 0 names

  abbrev matching : ℕ → List Entry
  matching k = those (λ e. (numbered no_match (λ i. match_by vs q i e) k).some) es

  by_number_lem : (k : ℕ) → numbered (refusal (nowhere 11)) (answers es) k ≡ numbered (refusal (nowhere 11)) (answers (matching k)) k
  by_number_lem zero = refl
  by_number_lem (suc i) = ap (λ f. answer_from f asked) (kept vs q i es)

  among-matching : among es ≡ among (those (λ e. (by_name no_match (λ i. match_by vs q i e) n 0 names).some) es)
  among-matching =
      sym (name-number (refusal (nowhere 11)) (answers es) n 0 names)
      ∙ by_number_lem (number_from n 0 names)
      ∙ name-number (refusal (nowhere 11)) (answers (matching (number_from n 0 names))) n 0 names
      ∙ ap (λ (t : Entry → Matched). among (those (λ e. (t e).some) es)) (λ j e. name-number no_match (λ i. match_by vs q i e) n 0 names j)

-- every record that does not match may be left away: what is answered is answered of those that match
pub matching-alone : (text : List ℕ) (p : Policy) (n path : List ℕ) (asked : ℕ) (owner : Bool) →
    asked_of text p n path asked owner ≡ asked_of text (holding p (those (λ e. (match_of text p n path owner e).some) p.entries)) n path asked owner
unfolding asked_of match_of answer_among
matching-alone text p n path asked owner = go (ltb 65535 (length text)) (bad_path path) (bad_asked asked)
  where
    q : Access
    q = record { path = path; owner = owner }

    go : (a b c : Bool) →
        guarded a b c (among p.variables q asked n p.entries p.names p.entries)
        ≡ guarded a b c (among p.variables q asked n p.entries p.names (those (λ e. (if a then no_match else if b then no_match else by_name no_match (λ i. match_by p.variables q i e) n 0 p.names).some) p.entries))
    go true b c = refl
    go false true c = refl
    go false false true = refl
    go false false false = among-matching p.variables q asked n p.entries p.names

-- ---- of a text that was read

-- how the rule of a record matches a request to profile j, in document 01's words
abbrev pub rule_match : List Variable → Access → Entry → (j : ℕ) → Matched
rule_match vs q e j =
    if eqb e.profile j && applies vs q e.rule then record { some = true; exact = matches_exactly vs e.rule.pattern q.path } else no_match

module _ (vs : List Variable) (q : Access) where
  -- the words of a front leave out nothing that matches
  match-rule : (i j : ℕ) (r : Rule) → good vs r ≡ true → match_by vs q j (entry i r) ≡ rule_match vs q (entry i r) j
  unfolding match_by counts
  match-rule i j r g = go (eqb i j) (out_rule q.path r) refl
    where
      found : Matched
      found = record { some = true; exact = matches_exactly vs r.pattern q.path }

      go : (p o : Bool) → out_rule q.path r ≡ o → (if (p && not o && good vs r) && applies vs q r then found else no_match) ≡ (if p && applies vs q r then found else no_match)
      go false o h = refl
      go true true h = rw (out-not-applies vs q r h)
      go true false h = rw g

  module _ (tell : (ℕ → Matched) → Matched) where
    rules-match : (i : ℕ) (rs : List Rule) → every (good vs) rs ≡ true →
        map (λ (e : Entry). tell (λ j. match_by vs q j e)) (map (entry i) rs) ≡ map (λ (e : Entry). tell (rule_match vs q e)) (map (entry i) rs)
    unfolding every
    rules-match i [] h = refl
    rules-match i (r ∷ rs) h =
        ap₂ (λ (m : Matched) (ms : List Matched). m ∷ ms)
        (ap tell (λ k j. match-rule i j r (and_left (good vs r) (every (good vs) rs) h) k))
        (rules-match i rs (and_right (good vs r) (every (good vs) rs) h))

    entries-match : (i : ℕ) (ps : List Profile) → every (λ (p : Profile). every (good vs) p.rules) ps ≡ true →
        map (λ (e : Entry). tell (λ j. match_by vs q j e)) (entries_from i ps) ≡ map (λ (e : Entry). tell (rule_match vs q e)) (entries_from i ps)
    unfolding every entries_from
    entries-match i [] h = refl
    entries-match i (p ∷ ps) h =
        map-append (λ (e : Entry). tell (λ j. match_by vs q j e)) (map (entry i) p.rules) (entries_from (i + 1) ps)
        ∙ ap₂ ◌++◌
        (rules-match i p.rules (and_left (every (good vs) p.rules) (every (λ (p : Profile). every (good vs) p.rules) ps) h))
        (entries-match (i + 1) ps (and_right (every (good vs) p.rules) (every (λ (p : Profile). every (good vs) p.rules) ps) h))
        ∙ sym (map-append (λ (e : Entry). tell (rule_match vs q e)) (map (entry i) p.rules) (entries_from (i + 1) ps))

module _ (text : List ℕ) (f : File) (n path : List ℕ) (owner : Bool) (l : length text ≤ 65535) (b : bad_path path ≡ false) where
  abbrev vs : List Variable
  vs = final_sets [] f.preamble

  abbrev q : Access
  q = record { path = path; owner = owner }

  abbrev tell : (ℕ → Matched) → Matched
  tell t = by_name no_match t n 0 (map (λ (p : Profile). p.name) f.profiles)

  match-opened : (e : Entry) → match_of text (policy_of f) n path owner e ≡ tell (λ j. match_by vs q j e)
  unfolding match_of policy_of
  match-opened e = rw (le-ltb 65535 (length text) l, b)

  file-matches : (rooms : ℕ) → file_within rooms text ≡ Read f →
      map (match_of text (policy_of f) n path owner) (policy_of f).entries
      ≡ map (λ (e : Entry). by_name no_match (rule_match (policy_of f).variables q e) n 0 (policy_of f).names) (policy_of f).entries
  unfolding policy_of
  file-matches rooms h =
      ap (λ (t : Entry → Matched). map t (policy_of f).entries) (λ k e. match-opened e k) ∙ entries-match vs q tell 0 f.profiles (file-good rooms text f h)

-- each record of what was read of a text is told to match where its profile is the first of the asked name and, as document 01 says it,
-- "its pattern matches and, if it says owner, the request's owner mark is set"; exactly where "it matches exactly"
pub read-matches : (head rooms : ℕ) (text : List ℕ) (p : Policy) → read_of head rooms text ≡ Accepted p → (n path : List ℕ) (owner : Bool) → bad_path path ≡ false →
    map (match_of text p n path owner) p.entries
    ≡ map (λ (e : Entry). by_name no_match (rule_match p.variables (record { path = path; owner = owner }) e) n 0 p.names) p.entries
read-matches head rooms text p e n path owner b =
    let w = read-file head rooms text p e in
    subst
    (λ (p : Policy).
    map (match_of text p n path owner) p.entries
    ≡ map (λ (e : Entry). by_name no_match (rule_match p.variables (record { path = path; owner = owner }) e) n 0 p.names) p.entries)
    (sym w.3)
    (file-matches text w.1 n path owner w.0 b (min 512 rooms) w.2)
