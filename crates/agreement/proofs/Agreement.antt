-- Asking what was read of a text answers as the text does.
use Rattle.std.specs.Prelude.{if◌then◌else◌}
use Prim.Native.Nat.{ℕ, ◌+◌, ◌≤◌, ◌<◌, min}
use native.Mathlib.Omega.{arith}
use native.Mathlib.Nat.{min-le_left}
use mathlib.Core.Path.{◌≡◌, refl, sym, ap, ap₂, ◌∙◌}
use mathlib.Core.List.{List, [], ◌∷◌, ◌++◌, map, append_assoc, append-nil}
use mathlib.Core.Bool.{Bool, true, false, not, ◌||◌, ◌&&◌, and-false, and-true}
use lib.ListN.{length}
use lib.Dec.{ltb}
use borrow.Author.Tests.{eq-eqb, le-ltb, ltb-false, ne_eqb}
use Rattle.scan.specs.Bytes.{every, same}
use Rattle.scan.proofs.Bools.{and_left, and_right}
use Rattle.text.specs.Reading.{Reading, Read, Refused, nowhere, refusal_at}
use Rattle.family.specs.Members.{those}
use Rattle.family.proofs.Lists.{those-append, those-without}
use Rattle.pattern.specs.Expansions.{Variable}
use Rattle.rule.specs.Rules.{Rule}
use Rattle.words.specs.Words.{front_of, is_out, words_of}
use Rattle.words.proofs.Laws.{out-unmatched}
use Rattle.preamble.specs.Variables.{final_sets}
use Rattle.profile.specs.Profiles.{File, Profile, file_of, file_within, rules_in}
use Rattle.findings.specs.Findings.{Access, Findings, applies, findings}
use Rattle.answer.specs.Answers.{answer_from}
use Rattle.answer.specs.declared.Answer.{Answer}
use Rattle.decide.specs.Decide.{answer_by, answer_in, answer_of}
use Rattle.entries.specs.Entries.{Entry, Policy, Short, Rejected, Accepted, entries_from, entry, policy_of, read_of, told_of}
use Rattle.asking.specs.Asking.{answer_among, asked_of, by_name, counts, good, rules_for}
use Rattle.agreement.proofs.Room.{room-enough, room-few, room-more, room-short}
use Rattle.agreement.proofs.Good.{file-good}
use Rattle.agreement.proofs.Adding.{checked}

-- ---- rules whose front is not the path's

-- the words of the rule's front are not the path's
abbrev pub out_rule : (path : List ℕ) → Rule → Bool
out_rule path r = is_out (words_of path) (front_of r.pattern)

module _ (vs : List Variable) (q : Access) where
  pub out-not-applies : (r : Rule) → out_rule q.path r ≡ true → applies vs q r ≡ false
  unfolding applies
  out-not-applies r e = ap (λ (b : Bool). (not r.owner || q.owner) && b) (out-unmatched r.pattern q.path e vs) ∙ and-false (not r.owner || q.owner)

  -- they match nothing, so that they may be left away
  findings-in : (rs : List Rule) → findings vs q (those (λ r. not (out_rule q.path r)) rs) ≡ findings vs q rs
  unfolding findings
  findings-in rs = rw (those-without (out_rule q.path) (applies vs q) rs out-not-applies)

-- ---- the records of one profile

module _ (vs : List Variable) (path : List ℕ) where
  -- of another profile's rules none counts
  none-counts : (i j : ℕ) (rs : List Rule) → (j ≡ i → ⊥) → those (counts vs path i) (map (entry j) rs) ≡ []
  unfolding those counts
  none-counts i j [] h = refl
  none-counts i j (r ∷ rs) h = rw (ne_eqb j i h, those) (none-counts i j rs h)

  none_from : (i j : ℕ) (ps : List Profile) → i < j → those (counts vs path i) (entries_from j ps) ≡ []
  unfolding those entries_from
  none_from i j [] h = refl
  none_from i j (p ∷ ps) h =
      those-append (counts vs path i) (map (entry j) p.rules) (entries_from (j + 1) ps)
      ∙ ap₂ ◌++◌ (none-counts i j p.rules (λ e. omega arith)) (none_from i (j + 1) ps (omega arith))

  counts-own : (i : ℕ) (r : Rule) → good vs r ≡ true → counts vs path i (entry i r) ≡ not (out_rule path r)
  unfolding counts
  counts-own i r h = ap₂ (λ (a b : Bool). (a && not (out_rule path r)) && b) (eq-eqb i i refl) h ∙ and-true (not (out_rule path r))

  -- of good rules of the profile, those count whose front's words are the path's
  own-rules : (i : ℕ) (rs : List Rule) → every (good vs) rs ≡ true → rules_for vs path i (map (entry i) rs) ≡ those (λ r. not (out_rule path r)) rs
  unfolding rules_for those every
  own-rules i [] h = refl
  own-rules i (r ∷ rs) h =
      ap with_first (counts-own i r (and_left (good vs r) (every (good vs) rs) h))
      ∙ go (not (out_rule path r)) (own-rules i rs (and_right (good vs r) (every (good vs) rs) h))
    where
      es : List Entry
      es = those (counts vs path i) (map (entry i) rs)

      with_first : Bool → List Rule
      with_first b = map (λ (e : Entry). e.rule) (elim b as (λ _. List Entry) [ true ↦ entry i r ∷ es | false ↦ es ])

      go : (b : Bool) → rules_for vs path i (map (entry i) rs) ≡ those (λ r. not (out_rule path r)) rs
          → with_first b ≡ (elim b as (λ _. List Rule) [ true ↦ r ∷ those (λ r. not (out_rule path r)) rs | false ↦ those (λ r. not (out_rule path r)) rs ])
      go true k = ap (λ (l : List Rule). r ∷ l) k
      go false k = k

-- ---- the first profile of a name

-- of the records in front none counts for a profile from i on
abbrev Past : List Variable → (path : List ℕ) → (i : ℕ) → List Entry → Type 0
Past vs path i es = (k : ℕ) → i ≤ k → those (counts vs path k) es ≡ []

module _ (vs : List Variable) (q : Access) (asked : ℕ) (n : List ℕ) where
  first-rules : (i : ℕ) (before : List Entry) (p : Profile) (ps : List Profile) → Past vs q.path i before → every (good vs) p.rules ≡ true
      → rules_for vs q.path i (before ++ entries_from i (p ∷ ps)) ≡ those (λ r. not (out_rule q.path r)) p.rules
  unfolding rules_for entries_from
  first-rules i before p ps h g =
      ap (map (λ (e : Entry). e.rule))
      (those-append (counts vs q.path i) before (entries_from i (p ∷ ps))
      ∙ ap₂ ◌++◌ (h i (omega arith))
      (those-append (counts vs q.path i) (map (entry i) p.rules) (entries_from (i + 1) ps)
      ∙ ap (λ (l : List Entry). those (counts vs q.path i) (map (entry i) p.rules) ++ l) (none_from vs q.path i (i + 1) ps (omega arith))
      ∙ append-nil (those (counts vs q.path i) (map (entry i) p.rules))))
      ∙ own-rules vs q.path i p.rules g

  past_more : (i : ℕ) (before : List Entry) (rs : List Rule) → Past vs q.path i before → Past vs q.path (i + 1) (before ++ map (entry i) rs)
  past_more i before rs h k l =
      those-append (counts vs q.path k) before (map (entry i) rs) ∙ ap₂ ◌++◌ (h k (omega arith)) (none-counts vs q.path k i rs (λ e. omega arith))

  -- the records of a profile join those in front of the others
  moved : (i : ℕ) (before : List Entry) (p : Profile) (ps : List Profile) → before ++ entries_from i (p ∷ ps) ≡ before ++ map (entry i) p.rules ++ entries_from (i + 1) ps
  unfolding entries_from
  moved i before p ps = sym (append_assoc before (map (entry i) p.rules) (entries_from (i + 1) ps))

  among_in : (i : ℕ) (before : List Entry) (ps : List Profile) → Past vs q.path i before → every (λ (p : Profile). every (good vs) p.rules) ps ≡ true
      → answer_among vs q asked n (before ++ entries_from i ps) i (map (λ (p : Profile). p.name) ps) ≡ answer_in vs q asked n ps
  unfolding answer_among by_name answer_in every
  among_in i before [] h g = refl
  among_in i before (p ∷ ps) h g =
      ap₂ (λ (a b : Answer). elim (same p.name n) as (λ _. Answer) [ true ↦ a | false ↦ b ])
      (ap (λ (f : Findings). answer_from f asked)
      (ap (findings vs q) (first-rules i before p ps h (and_left (every (good vs) p.rules) (every (λ (p : Profile). every (good vs) p.rules) ps) g)) ∙ findings-in vs q p.rules))
      (ap (λ (es : List Entry). answer_among vs q asked n es (i + 1) (map (λ (p : Profile). p.name) ps)) (moved i before p ps)
      ∙ among_in (i + 1) (before ++ map (entry i) p.rules) ps (past_more i before p.rules h)
      (and_right (every (good vs) p.rules) (every (λ (p : Profile). every (good vs) p.rules) ps) g))

-- ---- reading

-- what was told as accepted was read
told-file : (text : List ℕ) (r : Reading File) (p : Policy) → told_of text r ≡ Accepted p → (f : File) × (r ≡ Read f) × (p ≡ policy_of f)
told-file text (Read f) p e = (f, refl, cc)
told-file text (Refused n place) p e = let z : ◌≡◌ {A = ℕ} 0 1 = cc in absurd (omega arith)

-- a policy that was read is that of a file
pub read-file : (head rooms : ℕ) (text : List ℕ) (p : Policy) → read_of head rooms text ≡ Accepted p
    → (length text ≤ 65535) × (f : File) × (file_within (min 512 rooms) text ≡ Read f) × (p ≡ policy_of f)
unfolding read_of
read-file head rooms text p e = go (ltb head 1256) (ltb 65535 (length text)) refl e
  where
    go : (a b : Bool) → ltb 65535 (length text) ≡ b → (if a then Short else if b then Rejected (nowhere 1) else told_of text (file_within (min 512 rooms) text)) ≡ Accepted p
        → (length text ≤ 65535) × (f : File) × (file_within (min 512 rooms) text ≡ Read f) × (p ≡ policy_of f)
    go true b g h = let z : ◌≡◌ {A = ℕ} 0 1 = cc in absurd (omega arith)
    go false true g h = let z : ◌≡◌ {A = ℕ} 0 1 = cc in absurd (omega arith)
    go false false g h = let w = told-file text (file_within (min 512 rooms) text) p h in (ltb-false 65535 (length text) g, w.0, w.1, w.2)

module _ (head rooms : ℕ) (text : List ℕ) (f : File) (h : 1256 ≤ head) (l : length text ≤ 65535) (e : file_of text ≡ Read f) where
  within : file_within 512 text ≡ Read f
  unfolding file_of
  within = e

  told : read_of head rooms text ≡ told_of text (file_within (min 512 rooms) text)
  unfolding read_of
  told = rw (le-ltb head 1256 h, le-ltb 65535 (length text) l)

  -- a text that document 01 accepts is accepted where the table has room for its rules
  pub read-accepts : rules_in f.profiles ≤ rooms → read_of head rooms text ≡ Accepted (policy_of f)
  read-accepts r =
      let few : rules_in f.profiles ≤ 512 = room-few 512 text f within in
      told ∙ ap (told_of text) (room-enough 512 text f within (min 512 rooms) (omega arith))

  -- "If the table has fewer records than the file has rules, refusal 9"
  pub read-refuses : rooms < rules_in f.profiles → (place : ℕ) × (file_within (min 512 rooms) text ≡ Refused 9 place) × (read_of head rooms text ≡ Rejected (refusal_at text 9 place))
  read-refuses r =
      let w = room-short 512 text f within (min 512 rooms) (omega arith) in
      (w.0, w.1, told ∙ ap (told_of text) w.1)

-- ---- asking

-- "Equality with the old answer is wanted for the filling text"
pub asking-answers : (rooms : ℕ) (text : List ℕ) (f : File) → rooms ≤ 512 → file_within rooms text ≡ Read f
    → (name path : List ℕ) (asked : ℕ) (owner : Bool) → asked_of text (policy_of f) name path asked owner ≡ answer_of text name path asked owner
unfolding asked_of answer_of policy_of those file_of
asking-answers rooms text f h e name path asked owner =
    let q : Access = record { path = path; owner = owner } in
    ap (checked text path asked)
    (among_in (final_sets [] f.preamble) q asked name 0 [] f.profiles (λ k l. refl) (file-good rooms text f e)
    ∙ ap (λ (r : Reading File). answer_by text r name q asked) (sym (room-more rooms text f e 512 h)))

-- over what reading promises
pub read-answers : (head rooms : ℕ) (text : List ℕ) (p : Policy) → read_of head rooms text ≡ Accepted p
    → (name path : List ℕ) (asked : ℕ) (owner : Bool) → asked_of text p name path asked owner ≡ answer_of text name path asked owner
read-answers head rooms text p e name path asked owner =
    let w = read-file head rooms text p e in
    ap (λ (p : Policy). asked_of text p name path asked owner) w.3 ∙ asking-answers (min 512 rooms) text w.1 (min-le_left 512 rooms) w.2 name path asked owner
