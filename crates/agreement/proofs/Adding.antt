-- What adds nothing to an answer, for every table of records: a record that is not good, and one of another profile.
use Prim.Native.Nat.{ℕ, ◌+◌}
use mathlib.Core.Path.{◌≡◌, refl, sym, ap, ap₂, ◌∙◌}
use mathlib.Core.List.{List, [], ◌∷◌, ◌++◌, map}
use mathlib.Core.Bool.{Bool, true, false, not, ◌&&◌, and-false}
use lib.ListN.{length}
use lib.Dec.{eqb, ltb}
use Rattle.scan.specs.Bytes.{same}
use Rattle.text.specs.Reading.{nowhere}
use Rattle.request.specs.Requests.{bad_asked, bad_path}
use Rattle.family.specs.Members.{those}
use Rattle.family.proofs.Lists.{those-append}
use Rattle.pattern.specs.Expansions.{Variable}
use Rattle.rule.specs.Rules.{Rule}
use Rattle.words.specs.Words.{is_out, words_of}
use Rattle.findings.specs.Findings.{Access, findings}
use Rattle.answer.specs.Answers.{answer_from, refusal}
use Rattle.answer.specs.declared.Answer.{Answer}
use Rattle.entries.specs.Entries.{Entry, Policy}
use Rattle.asking.specs.Asking.{answer_among, asked_of, by_name, counts, good, rules_for}

-- ---- an element that fails the test

those-cut : {A : Type 0} (p : A → Bool) (xs ys : List A) (x : A) → p x ≡ false → those p (xs ++ (x ∷ ys)) ≡ those p (xs ++ ys)
unfolding those
those-cut p xs ys x e = those-append p xs (x ∷ ys) ∙ rw (e, those) (sym (those-append p xs ys))

module _ (vs : List Variable) (path : List ℕ) (i : ℕ) (es fs : List Entry) (e : Entry) where
  uncounted : counts vs path i e ≡ false → rules_for vs path i (es ++ (e ∷ fs)) ≡ rules_for vs path i (es ++ fs)
  unfolding rules_for
  uncounted h = ap (map (λ (e : Entry). e.rule)) (those-cut (counts vs path i) es fs e h)

  -- "a record whose places don't hold a good pattern and target matches nothing"
  pub bad-matches-nothing : good vs e.rule ≡ false → rules_for vs path i (es ++ (e ∷ fs)) ≡ rules_for vs path i (es ++ fs)
  unfolding counts
  bad-matches-nothing h = uncounted (ap (λ (b : Bool). (eqb e.profile i && not (is_out (words_of path) e.front)) && b) h ∙ and-false (eqb e.profile i && not (is_out (words_of path) e.front)))

  -- nor does one of another profile
  pub others-match-nothing : eqb e.profile i ≡ false → rules_for vs path i (es ++ (e ∷ fs)) ≡ rules_for vs path i (es ++ fs)
  unfolding counts
  others-match-nothing h = uncounted (ap (λ (b : Bool). (b && not (is_out (words_of path) e.front)) && good vs e.rule) h)

-- ---- the answer

module _ (vs : List Variable) (q : Access) (asked : ℕ) (n : List ℕ) (es fs : List Entry) (same-rules : (i : ℕ) → rules_for vs q.path i es ≡ rules_for vs q.path i fs) where
  among_same : (i : ℕ) (ms : List (List ℕ)) → answer_among vs q asked n es i ms ≡ answer_among vs q asked n fs i ms
  unfolding answer_among by_name
  among_same i [] = refl
  among_same i (m ∷ ms) =
      ap₂ (λ (a b : Answer). elim (same m n) as (λ _. Answer) [ true ↦ a | false ↦ b ]) (ap (λ (rs : List Rule). answer_from (findings vs q rs) asked) (same-rules i)) (among_same (i + 1) ms)

-- refusals 1, 2 and 3 come first, where they are given
abbrev pub guarded : (long bad none : Bool) → Answer → Answer
guarded a b c x =
    elim a as (λ _. Answer) [
      | true ↦ refusal (nowhere 1)
      | false ↦
          elim b as (λ _. Answer) [
            | true ↦ refusal (nowhere 2)
            | false ↦ elim c as (λ _. Answer) [ true ↦ refusal (nowhere 3) | false ↦ x ]
          ]
    ]

abbrev pub checked : (text path : List ℕ) → (asked : ℕ) → Answer → Answer
checked text path asked = guarded (ltb 65535 (length text)) (bad_path path) (bad_asked asked)

-- a policy with these entries
abbrev pub holding : Policy → List Entry → Policy
holding p es = record { variables = p.variables; names = p.names; entries = es }

-- a record that is not good may stand anywhere, or be left away
pub bad-adds-nothing : (text name path : List ℕ) (asked : ℕ) (owner : Bool) (p : Policy) (es fs : List Entry) (e : Entry) → good p.variables e.rule ≡ false
    → asked_of text (holding p (es ++ (e ∷ fs))) name path asked owner ≡ asked_of text (holding p (es ++ fs)) name path asked owner
unfolding asked_of
bad-adds-nothing text name path asked owner p es fs e h =
    ap (checked text path asked)
    (among_same p.variables (record { path = path; owner = owner }) asked name (es ++ (e ∷ fs)) (es ++ fs) (λ i. bad-matches-nothing p.variables path i es fs e h) 0 p.names)
