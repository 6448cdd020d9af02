-- What is gathered record by record is the findings of the rules that count, and the answer in the end is the one defined.
use Rattle.std.specs.Prelude.{if◌then◌else◌}
use Rattle.std.proofs.Common.{Option, Some, None}
use Prim.Native.Nat.{ℕ, zero, suc, ◌+◌, ◌*◌, ◌-◌, min}
use mathlib.Core.Path.{◌≡◌, refl, sym, ap, ap₂, ◌∙◌}
use mathlib.Core.List.{List, [], ◌∷◌, ◌++◌, map, append_assoc, append-nil}
use mathlib.Core.Bool.{Bool, true, false, not, ◌&&◌, ◌||◌, and-false, false≢true}
use native.Mathlib.Omega.{arith}
use lib.ListN.{length, get_or, take, drop}
use lib.Seq.{get_or-drop}
use lib.Dec.{eqb, ltb, leb}
use borrow.Author.Tests.{eqb-true, ne_eqb, ltb-true, ltb-false, le-leb}
use Rattle.scan.specs.Bytes.{same, some, span}
use Rattle.scan.proofs.Bools.{and_left}
use Rattle.codes.proofs.Laws.{take-least}
use Rattle.text.specs.Reading.{nowhere}
use Rattle.perms.specs.Sets.{perms}
use Rattle.perms.specs.declared.Perms.{Perms}
use Rattle.request.specs.Requests.{bad_asked, bad_path}
use Rattle.request.proofs.Laws.{path-short}
use Rattle.pattern.specs.Expansions.{Variable}
use Rattle.pattern.specs.Faults.{pattern_fault}
use Rattle.pattern.specs.Table.{bytes_at, env}
use Rattle.matcher.specs.Walk.{path_fits}
use Rattle.expand.specs.Write.{text_fits}
use Rattle.matcher.specs.Match.{matches_some, matches_exactly}
use Rattle.glob.specs.Glob.{matched_of, no_match}
use Rattle.glob.specs.declared.Matched.{Matched}
use Rattle.family.specs.Members.{those, all, choice}
use Rattle.names.specs.Names.{name_form}
use Rattle.modes.specs.declared.Mode.{Mode}
use Rattle.rule_tail.specs.Tails.{takes_target}
use Rattle.rule.specs.Rules.{Rule}
use Rattle.words.specs.Words.{is_out, words_of}
use Rattle.words.specs.declared.Words.{Words}
use Rattle.findings.specs.Findings.{Access, applies, bits, findings, moves}
use Rattle.findings.specs.Weighed.{Weighed, allowing, denying, nothing, weighed}
use Rattle.findings.proofs.Joining.{findings-append}
use Rattle.answer.specs.Answers.{answer_from, refusal}
use Rattle.answer.specs.Parts.{answer_to}
use Rattle.answer.specs.declared.Answer.{Answer}
use Rattle.answer.proofs.Laws.{answer-gathered}
use Rattle.weigh.specs.Weigh.{Fits, weighed_by}
use Rattle.weigh.proofs.Sound.{Sound}
use Rattle.weigh.proofs.Laws.{fitting, matched-fit, owner-turned, weigh-one}
use Rattle.entries.specs.Entries.{Entry, entry_of, names_from, policy_in}
use Rattle.entries.specs.declared.Record.{Record}
use Rattle.asking.specs.Asking.{answer_among, asked_of, by_name, counts, good, good_end, good_target, match_by, match_of, rules_for}
use Rattle.asking.specs.Steps.{concluded, first_named, gathered_in, match_if, matched_rule, number_from, out_of, query_by, query_of, refused_for, refused_query, weighed_entry}
use Rattle.asking.specs.declared.Query.{Query}

-- ---- one record more

module _ (text : List ℕ) (vs : List Variable) (q : Access) (fits : Fits text q.path) (i : ℕ) where
  abbrev found : List Rule → Weighed
  found rs = weighed (findings vs q rs)

  -- the rule of a record, where it counts
  abbrev only : Bool → Entry → List Rule
  only b e = elim b as (λ _. List Rule) [ true ↦ e.rule ∷ [] | false ↦ [] ]

  none_more : (done : List Rule) → found done ≡ found (done ++ [])
  none_more done = ap found (sym (append-nil done))

  sound : (r : Rule) → eqb (pattern_fault vs r.pattern) 0 ≡ true → good_end r ≡ true → Sound vs r
  unfolding good_end
  sound r z g =
      record {
        good = eqb-true (pattern_fault vs r.pattern) 0 z;
        below = ltb-true r.perms.0 128 (and_left (ltb r.perms.0 128) (good_target r.transition r.target) g);
      }

  -- a pattern with a fault matches nothing
  faulty : (pattern : List ℕ) → eqb (pattern_fault vs pattern) 0 ≡ false → matched_of text vs pattern q.path ≡ no_match
  unfolding matched_of
  faulty pattern z = go (text_fits text) (path_fits q.path) (eqb (pattern_fault vs pattern) 0) z
    where
      go : (a b c : Bool) → c ≡ false →
          (if a && b && c then record { some = matches_some vs pattern q.path; exact = matches_exactly vs pattern q.path } else no_match) ≡ no_match
      go true true false h = refl
      go true true true h = absurd (false≢true (sym h))
      go true false c h = refl
      go false b c h = refl

  unmatched : (r : Rule) (w : Weighed) → eqb (pattern_fault vs r.pattern) 0 ≡ false → weighed_by q.owner (matched_of text vs r.pattern q.path) r w ≡ w
  unfolding weighed_by
  unmatched r w z = rw (faulty r.pattern z, and-false (not r.owner || q.owner))

  entry-adds : (done : List Rule) (e : Entry) →
      (if out_of (words_of q.path) i e then found done else weighed_entry text vs q e (found done)) ≡ found (done ++ only (counts vs q.path i e) e)
  unfolding out_of weighed_entry counts good
  entry-adds done e =
      go (eqb e.profile i) refl (is_out (words_of q.path) e.front) refl (good_end e.rule) refl (eqb (pattern_fault vs e.rule.pattern) 0) refl
    where
      go : (p : Bool) → eqb e.profile i ≡ p → (o : Bool) → is_out (words_of q.path) e.front ≡ o → (g : Bool) → good_end e.rule ≡ g →
          (z : Bool) → eqb (pattern_fault vs e.rule.pattern) 0 ≡ z →
          (if not p || o then found done else if g then weighed_by q.owner (matched_of text vs e.rule.pattern q.path) e.rule (found done) else found done)
          ≡ found (done ++ only (p && not o && (z && g)) e)
      go false a o b g c z d = none_more done
      go true a true b g c z d = none_more done
      go true a false b false c z d = rw (and-false z) (none_more done)
      go true a false b true c false d = unmatched e.rule (found done) d ∙ none_more done
      go true a false b true c true d =
          weigh-one vs e.rule (sound e.rule d c) q (findings vs q done) text fits ∙ ap weighed (sym (findings-append vs q done (e.rule ∷ [])))

  -- ---- all records

  rules-more : (e : Entry) (es : List Entry) → only (counts vs q.path i e) e ++ rules_for vs q.path i es ≡ rules_for vs q.path i (e ∷ es)
  unfolding rules_for those
  rules-more e es = go (counts vs q.path i e)
    where
      go : (b : Bool) → only b e ++ map (λ (x : Entry). x.rule) (those (counts vs q.path i) es)
          ≡ map (λ (x : Entry). x.rule) (elim b as (λ _. List Entry) [ true ↦ e ∷ those (counts vs q.path i) es | false ↦ those (counts vs q.path i) es ])
      go true = refl
      go false = refl

  gathered-after : (done : List Rule) (es : List Entry) →
      gathered_in text vs q (words_of q.path) i es (found done) ≡ found (done ++ rules_for vs q.path i es)
  unfolding gathered_in
  gathered-after done [] = ap found (sym (append-nil done)) ∙ ap (λ (l : List Rule). found (done ++ l)) rules-none
    where
      rules-none : [] ≡ rules_for vs q.path i []
      rules-none = unfold rules_for those in refl
  gathered-after done (e ∷ es) =
      ap (gathered_in text vs q (words_of q.path) i es) (entry-adds done e)
      ∙ gathered-after (done ++ only (counts vs q.path i e) e) es
      ∙ ap found (append_assoc done (only (counts vs q.path i e) e) (rules_for vs q.path i es) ∙ ap (λ (l : List Rule). done ++ l) (rules-more e es))

  none_found : nothing ≡ found []
  unfolding weighed findings those all bits some moves choice
  none_found = refl

  pub gathered-counts : (es : List Entry) → gathered_in text vs q (words_of q.path) i es nothing ≡ found (rules_for vs q.path i es)
  gathered-counts es = ap (gathered_in text vs q (words_of q.path) i es) none_found ∙ gathered-after [] es

-- ---- the answer

-- by the number of the name
abbrev pub numbered : {A : Type 0} → A → (ℕ → A) → ℕ → A
numbered none f zero = none
numbered none f (suc j) = f j

pub name-number : {A : Type 0} (none : A) (f : ℕ → A) (n : List ℕ) (i : ℕ) (names : List (List ℕ)) → numbered none f (number_from n i names) ≡ by_name none f n i names
unfolding by_name
name-number none f n i [] = refl
name-number {A} none f n i (m ∷ ms) = go (same m n) (name-number none f n (i + 1) ms)
  where
    go : (b : Bool) → numbered none f (number_from n (i + 1) ms) ≡ by_name none f n (i + 1) ms →
        numbered none f (elim b as (λ _. ℕ) [ true ↦ suc i | false ↦ number_from n (i + 1) ms ]) ≡ elim b as (λ _. A) [ true ↦ f i | false ↦ by_name none f n (i + 1) ms ]
    go true h = refl
    go false h = h

module _ (text head : List ℕ) (table : List Record) (n path : List ℕ) (asked : Perms) (owner : Bool) where
  abbrev q : Access
  q = record { path = path; owner = owner }

  abbrev names : List (List ℕ)
  names = names_from text (drop 1120 head) (min 32 (get_or head 1249 0)) 0

  -- what is answered in the end where all records are walked
  unfoldable pub walked : Query → Answer
  walked k = concluded k (gathered_in text (env text head k.variables) q (words_of path) k.profile (map (entry_of text) (take k.count table)) nothing)

  by_number_lem : Fits text path → (k : ℕ) →
      walked (query_by k head (length table) path asked owner)
      ≡ numbered (refusal (nowhere 11)) (λ j. answer_from (findings (env text head (get_or head 1248 0)) q (rules_for (env text head (get_or head 1248 0)) path j (map (entry_of text) (take (get_or head 1250 0) table)))) asked.0) k
  unfolding walked concluded
  by_number_lem fits zero = refl
  by_number_lem fits (suc j) =
      let vs : List Variable = env text head (get_or head 1248 0) in
      let es : List Entry = map (entry_of text) (take (get_or head 1250 0) table) in
      ap (λ (w : Weighed). answer_to w asked.0) (ap (λ (l : List Record). gathered_in text vs q (words_of path) j (map (entry_of text) l) nothing) (sym (take-least (get_or head 1250 0) (min (length table) (get_or head 1250 0)) table (omega arith)))
      ∙ gathered-counts text vs q fits j es)
      ∙ answer-gathered (findings vs q (rules_for vs path j es)) asked.0

  pub asking-walked : walked (query_of text head (length table) n path asked owner) ≡ asked_of text (policy_in text head table) n path asked.0 owner
  unfolding query_of refused_for asked_of policy_in answer_among
  asking-walked = go (ltb 65535 (length text)) refl (bad_path path) refl (bad_asked asked.0) refl
    where
      go : (a : Bool) → ltb 65535 (length text) ≡ a → (b : Bool) → bad_path path ≡ b → (c : Bool) → bad_asked asked.0 ≡ c →
          walked (if eqb (if a then 1 else if b then 2 else if c then 3 else 0) 0 then query_by (number_from n 0 names) head (length table) path asked owner
          else refused_query (if a then 1 else if b then 2 else if c then 3 else 0) path asked owner)
          ≡ elim a [
            | true ↦ refusal (nowhere 1)
            | false ↦
                elim b [
                  | true ↦ refusal (nowhere 2)
                  | false ↦
                      elim c [
                        | true ↦ refusal (nowhere 3)
                        | false ↦ answer_among (env text head (get_or head 1248 0)) q asked.0 n (map (entry_of text) (take (get_or head 1250 0) table)) 0 names
                      ]
                ]
          ]
      go true x b y c z = unfold walked concluded in refl
      go false x true y c z = unfold walked concluded in refl
      go false x false y true z = unfold walked concluded in refl
      go false x false y false z =
          by_number_lem (record { short = ltb-false 65535 (length text) x; fits = le-leb (length path) 4095 (path-short path y) }) (number_from n 0 names)
          ∙ name-number (refusal (nowhere 11)) (λ j. answer_from (findings (env text head (get_or head 1248 0)) q (rules_for (env text head (get_or head 1248 0)) path j (map (entry_of text) (take (get_or head 1250 0) table)))) asked.0) n 0 names

-- ---- how one record matches

-- by what the code asks
module _ (text : List ℕ) (vs : List Variable) (q : Access) (r : Rule) where
  pub match-not-owner : (r.owner && not q.owner) ≡ true → no_match ≡ matched_rule text vs q r
  unfolding matched_rule
  match-not-owner o = rw (owner-turned r.owner q.owner, o, and-false (good_end r))

  pub match-bad : good_end r ≡ false → no_match ≡ matched_rule text vs q r
  unfolding matched_rule
  match-bad g = rw g

  module _ {x : Matched} (m : x ≡ matched_of text vs r.pattern q.path) where
    pub match_none : x.some ≡ false → no_match ≡ matched_rule text vs q r
    unfolding matched_rule
    match_none s = rw (← m, s, and-false (good_end r && (not r.owner || q.owner)))

    pub match-some : (r.owner && not q.owner) ≡ false → x.some ≡ true → good_end r ≡ true → x ≡ matched_rule text vs q r
    unfolding matched_rule
    match-some o s g = rw (← m, owner-turned r.owner q.owner, o, g, s)

module _ (text : List ℕ) (vs : List Variable) (q : Access) (e : Entry) where
  abbrev matched : Matched
  matched = matched_of text vs e.rule.pattern q.path

  -- what it adds
  adds : (w : Weighed) → (if (matched_rule text vs q e.rule).some then (if e.rule.deny then denying e.rule w else allowing (matched_rule text vs q e.rule).exact e.rule w) else w) ≡ weighed_entry text vs q e w
  unfolding matched_rule weighed_entry weighed_by
  adds w = go (good_end e.rule) (not e.rule.owner || q.owner) matched.some
    where
      go : (g o s : Bool) →
          (if (if (g && o) && s then (record { some = true; exact = matched.exact }) else no_match).some
          then (if e.rule.deny then denying e.rule w else allowing (if (g && o) && s then (record { some = true; exact = matched.exact }) else no_match).exact e.rule w) else w)
          ≡ (if g then (if o && s then (if e.rule.deny then denying e.rule w else allowing matched.exact e.rule w) else w) else w)
      go true true true = refl
      go true true false = refl
      go true false s = refl
      go false o s = refl

  module _ {x : Matched} (m : x ≡ matched_rule text vs q e.rule) (w : Weighed) where
    pub entry-unmatched : x.some ≡ false → w ≡ weighed_entry text vs q e w
    entry-unmatched s = rw (← adds w, ← m, s)

    pub entry-denied : x.some ≡ true → e.rule.deny ≡ true → denying e.rule w ≡ weighed_entry text vs q e w
    entry-denied s d = rw (← adds w, ← m, s, d)

    pub entry-allowed : x.some ≡ true → e.rule.deny ≡ false → allowing x.exact e.rule w ≡ weighed_entry text vs q e w
    entry-allowed s d = rw (← adds w, ← m, s, d)

  -- where the request is not refused, it is how the record of that profile matches
  match-in : Fits text q.path → (i : ℕ) → (if out_of (words_of q.path) i e then no_match else matched_rule text vs q e.rule) ≡ match_by vs q i e
  unfolding out_of matched_rule match_by counts good applies
  match-in fits i = go (eqb e.profile i) (is_out (words_of q.path) e.front) (good_end e.rule) (eqb (pattern_fault vs e.rule.pattern) 0) refl
    where
      go : (p o g z : Bool) → eqb (pattern_fault vs e.rule.pattern) 0 ≡ z →
          (if not p || o then no_match else match_if (g && (not e.rule.owner || q.owner)) matched)
          ≡ (if (p && not o && (z && g)) && ((not e.rule.owner || q.owner) && matches_some vs e.rule.pattern q.path)
          then record { some = true; exact = matches_exactly vs e.rule.pattern q.path } else no_match)
      go false o g z h = refl
      go true true g z h = refl
      go true false false z h = rw (and-false z)
      go true false true false h = rw (faulty text vs q fits i e.rule.pattern h, and-false (not e.rule.owner || q.owner))
      go true false true true h = rw (matched-fit text q.path vs e.rule.pattern (fitting fits) (eqb-true (pattern_fault vs e.rule.pattern) 0 h))

-- by what is known of the request
unfoldable match_known : (text head path : List ℕ) → Query → Entry → Matched
match_known text head path k e =
    if not (eqb k.refused 0) || out_of k.words k.profile e then no_match
    else matched_rule text (env text head k.variables) (record { path = path; owner = k.owner }) e.rule

module _ (text head n path : List ℕ) (owner : Bool) (e : Entry) where
  abbrev access : Access
  access = record { path = path; owner = owner }

  abbrev variables : List Variable
  variables = env text head (get_or head 1248 0)

  abbrev by_number : ℕ → Matched
  by_number i = match_by variables access i e

  match-number : Fits text path → (k : ℕ) → match_known text head path (query_by k head 0 path (perms 1) owner) e ≡ numbered no_match by_number k
  unfolding match_known
  match-number fits zero = refl
  match-number fits (suc j) = match-in text variables access e fits j

  match-asked : match_known text head path (query_of text head 0 n path (perms 1) owner) e ≡ match_of text (policy_in text head []) n path owner e
  unfolding query_of refused_for match_of policy_in
  match-asked = go (ltb 65535 (length text)) refl (bad_path path) refl
    where
      go : (a : Bool) → ltb 65535 (length text) ≡ a → (b : Bool) → bad_path path ≡ b →
          match_known text head path (if eqb (if a then 1 else if b then 2 else 0) 0 then query_by (number_from n 0 (names_from text (drop 1120 head) (min 32 (get_or head 1249 0)) 0)) head 0 path (perms 1) owner
          else refused_query (if a then 1 else if b then 2 else 0) path (perms 1) owner) e
          ≡ (if a then no_match else if b then no_match else by_name no_match by_number n 0 (names_from text (drop 1120 head) (min 32 (get_or head 1249 0)) 0))
      go true x b y = unfold match_known in refl
      go false x true y = unfold match_known in refl
      go false x false y =
          match-number (record { short = ltb-false 65535 (length text) x; fits = le-leb (length path) 4095 (path-short path y) }) (number_from n 0 (names_from text (drop 1120 head) (min 32 (get_or head 1249 0)) 0))
          ∙ name-number no_match by_number n 0 (names_from text (drop 1120 head) (min 32 (get_or head 1249 0)) 0)

  module _ {k : Query} (known : k ≡ query_of text head 0 n path (perms 1) owner) {o : Bool} (out : o ≡ out_of k.words k.profile e) where
    match-query : (if not (eqb k.refused 0) || o then no_match else matched_rule text (env text head k.variables) (record { path = path; owner = k.owner }) e.rule)
        ≡ match_of text (policy_in text head []) n path owner e
    unfolding match_known
    match-query =
        ap (λ (b : Bool). if not (eqb k.refused 0) || b then no_match else matched_rule text (env text head k.variables) (record { path = path; owner = k.owner }) e.rule) out
        ∙ ap (λ (j : Query). match_known text head path j e) known
        ∙ match-asked

    pub match-out : (not (eqb k.refused 0) || o) ≡ true → no_match ≡ match_of text (policy_in text head []) n path owner e
    match-out h = rw (← match-query, h)

    pub match-here : (not (eqb k.refused 0) || o) ≡ false →
        matched_rule text (env text head k.variables) (record { path = path; owner = k.owner }) e.rule ≡ match_of text (policy_in text head []) n path owner e
    match-here h = rw (← match-query, h)

-- ---- what is known before the walk

number-none_at : (k : ℕ) → numbered None Some k ≡ None → k ≡ 0
number-none_at zero e = refl
number-none_at (suc k) e = cc

number-some_at : (k i : ℕ) → numbered None Some k ≡ Some i → k ≡ suc i
number-some_at zero i e = cc
number-some_at (suc k) i e = cc

module _ (text head : List ℕ) (records : ℕ) (n path : List ℕ) (asked : Perms) (owner : Bool) where
  abbrev number : ℕ
  number = number_from n 0 (names_from text (drop 1120 head) (min 32 (get_or head 1249 0)) 0)

  abbrev refused_by : ℕ → Words → Query
  refused_by k w = record { refused = k; profile = 0; variables = 0; count = 0; words = w; asked = asked; owner = owner }

  pub query-refused : {k : ℕ} {w : Words} → w ≡ words_of path → k ≡ refused_for text path asked.0 → (k ≡ 0 → ⊥) → refused_by k w ≡ query_of text head records n path asked owner
  unfolding query_of
  query-refused {k} v e h = ap (refused_by k) v ∙ rw (← e, ne_eqb k 0 h)

  module _ {k : ℕ} (e : k ≡ refused_for text path asked.0) (z : k ≡ 0) {o : Option ℕ} (f : o ≡ first_named n 0 (names_from text (drop 1120 head) (min 32 (get_or head 1249 0)) 0)) {w : Words} (v : w ≡ words_of path) where
    query-known : {j : ℕ} → number ≡ j → query_by j head records path asked owner ≡ query_of text head records n path asked owner
    unfolding query_of
    query-known y = ap (λ (m : ℕ). query_by m head records path asked owner) (sym y) ∙ rw (← e, z)

    told : numbered None Some number ≡ o
    told = name-number None Some n 0 (names_from text (drop 1120 head) (min 32 (get_or head 1249 0)) 0) ∙ sym f

    pub query-nowhere : o ≡ None → refused_by 11 w ≡ query_of text head records n path asked owner
    query-nowhere y = ap (refused_by 11) v ∙ query-known (number-none_at number (told ∙ y))

    pub query-found : {i count vars : ℕ} → o ≡ Some i → vars ≡ get_or head 1248 0 → count ≡ min records (get_or head 1250 0) →
        ◌≡◌ {A = Query} (record { refused = 0; profile = i; variables = vars; count = count; words = w; asked = asked; owner = owner }) (query_of text head records n path asked owner)
    query-found {i} y a b =
        (λ t. record { refused = 0; profile = i; variables = a t; count = b t; words = v t; asked = asked; owner = owner }) ∙ query-known (number-some_at number i (told ∙ y))

module _ (n text t : List ℕ) (i : ℕ) where
  pub number-here : {k m : ℕ} → k ≡ suc m → same (bytes_at text t (4 * i)) n ≡ true → first_named n i (names_from text t k i) ≡ Some i
  unfolding by_name names_from
  number-here k e = rw (k, e, by_name)

  pub number-later : {k m : ℕ} → k ≡ suc m → same (bytes_at text t (4 * i)) n ≡ false → first_named n i (names_from text t k i) ≡ first_named n (i + 1) (names_from text t m (i + 1))
  unfolding by_name names_from
  number-later k e = rw (k, e, by_name)

  pub number-none : {k : ℕ} → k ≡ 0 → first_named n i (names_from text t k i) ≡ None
  unfolding by_name names_from
  number-none k = rw k

-- the name that the code compares
pub name-at : (text head : List ℕ) (i a e : ℕ) → a ≡ get_or head (1120 + 4 * i) 0 → e ≡ get_or head (1120 + 4 * i + 1) 0 → span text a e ≡ bytes_at text (drop 1120 head) (4 * i)
name-at text head i a e p q =
    let l : 1120 + 4 * i + 1 ≡ 1120 + (4 * i + 1) = omega arith in
    ap₂ (span text) (p ∙ sym (get_or-drop 1120 head (4 * i) 0)) (q ∙ ap (λ (m : ℕ). get_or head m 0) l ∙ sym (get_or-drop 1120 head (4 * i + 1) 0))

-- ---- targets

pub target_none : (tr : Option Mode) (s : List ℕ) → length s ≡ 0 → good_target tr s ≡ true
unfolding good_target
target_none tr [] e = refl
target_none tr (b ∷ s) e = absurd (omega arith)

pub target-some : (tr : Option Mode) (s : List ℕ) → (length s ≡ 0 → ⊥) → good_target tr s ≡ (takes_target tr && name_form true s && leb (length s) 255)
unfolding good_target
target-some tr [] h = absurd (h refl)
target-some tr (b ∷ s) h = refl
