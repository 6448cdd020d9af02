-- From the answers of rule lists to the answers of texts.
use Rattle.std.proofs.Common.{Result, Ok, Err}
use Prim.Native.Nat.{ℕ}
use mathlib.Core.Path.{◌≡◌, refl, sym, ap, ◌∙◌, subst}
use mathlib.Core.List.{List, [], ◌∷◌, Memᴰ}
use mathlib.Core.Bool.{Bool, true, false, ◌||◌, false≢true}
use lib.ListN.{length}
use lib.Dec.{ltb}
use borrow.Author.Tests.{le-ltb}
use Rattle.scan.specs.Bytes.{same}
use Rattle.text.specs.Reading.{Reading, Read, Refused, nowhere, refusal_at}
use Rattle.request.specs.Requests.{bad_path, bad_asked}
use Rattle.pattern.specs.Expansions.{Variable}
use Rattle.rule.specs.Rules.{Rule}
use Rattle.preamble.specs.Variables.{final_sets}
use Rattle.profile.specs.Profiles.{Profile, File, file_of}
use Rattle.findings.specs.Findings.{Access, findings, Equal}
use Rattle.answer.specs.Answers.{answer_from, refusal}
use Rattle.answer.specs.declared.Answer.{Answer}
use Rattle.decide.specs.Decide.{answer_in, answer_by, answer_of}
use Rattle.laws.specs.Asked.{named, rules_of, findings_by, findings_of, Given}
use Rattle.laws.specs.Orders.{Accepted, SameButRules}
use Rattle.scan.proofs.Bools.{iff}
use Rattle.text.specs.declared.Refusal.{Refusal}
use Rattle.laws.proofs.Fixed.{answer-fixed}
use Rattle.laws.proofs.Names.{found, member-named, only_one}

-- ---- the answer by the asked profile's rules

-- refusal 11 where no profile has the name
abbrev or_none : (found : Bool) → Answer → Answer
or_none true a = a
or_none false a = refusal (nowhere 11)

in-named : (vs : List Variable) (q : Access) (asked : ℕ) (n : List ℕ) (ps : List Profile)
    → answer_in vs q asked n ps ≡ or_none (named n ps) (answer_from (findings vs q (rules_of n ps)) asked)
unfolding answer_in named rules_of
in-named vs q asked n [] = refl
in-named vs q asked n (p ∷ ps) = go (same p.name n) (in-named vs q asked n ps)
  where
    of : List Rule → Answer
    of rs = answer_from (findings vs q rs) asked

    go : (b : Bool) → answer_in vs q asked n ps ≡ or_none (named n ps) (of (rules_of n ps))
        → (elim b as (λ _. Answer) [ true ↦ of p.rules | false ↦ answer_in vs q asked n ps ])
        ≡ or_none (b || named n ps) (of (elim b as (λ _. List Rule) [ true ↦ p.rules | false ↦ rules_of n ps ]))
    go true e = refl
    go false e = e

-- refusals 1, 2 and 3 come first
abbrev checked : (long path asked : Bool) → Answer → Answer
checked true y z a = refusal (nowhere 1)
checked false true z a = refusal (nowhere 2)
checked false false true a = refusal (nowhere 3)
checked false false false a = a

whole : (text n path : List ℕ) (asked : ℕ) (owner : Bool)
    → answer_of text n path asked owner
    ≡ checked (ltb 65535 (length text)) (bad_path path) (bad_asked asked) (answer_by text (file_of text) n (record { path = path; owner = owner }) asked)
unfolding answer_of
whole text n path asked owner = go (ltb 65535 (length text)) (bad_path path) (bad_asked asked)
  where
    a : Answer
    a = answer_by text (file_of text) n (record { path = path; owner = owner }) asked

    go : (x y z : Bool)
        → ◌≡◌ {A = Answer} (elim x as (λ _. Answer) [ true ↦ refusal (nowhere 1) | false ↦ elim y as (λ _. Answer) [ true ↦ refusal (nowhere 2) | false ↦ elim z as (λ _. Answer) [ true ↦ refusal (nowhere 3) | false ↦ a ] ] ])
        (checked x y z a)
    go true y z = refl
    go false true z = refl
    go false false true = refl
    go false false false = refl

-- ---- an answer that is no refusal

is_answered : Result (Unit {0}) Refusal → Bool
is_answered (Ok tt) = true
is_answered (Err r) = false

no-refusal : (r : Refusal) → Given (refusal r) → ⊥
unfolding is_answered
no-refusal r e = false≢true (ap is_answered e)

given-checked : (x y z : Bool) (a : Answer) → Given (checked x y z a) → checked x y z a ≡ a
given-checked true y z a e = absurd (no-refusal (nowhere 1) e)
given-checked false true z a e = absurd (no-refusal (nowhere 2) e)
given-checked false false true a e = absurd (no-refusal (nowhere 3) e)
given-checked false false false a e = refl

given-named : (b : Bool) (a : Answer) → Given (or_none b a) → or_none b a ≡ a
given-named true a e = refl
given-named false a e = absurd (no-refusal (nowhere 11) e)

given-read : (text : List ℕ) (r : Reading File) (n : List ℕ) (q : Access) (asked : ℕ) → Given (answer_by text r n q asked)
    → answer_by text r n q asked ≡ answer_from (findings_by r n q) asked
given-read text (Read f) n q asked e =
    let vs : List Variable = final_sets [] f.preamble in
    let k = in-named vs q asked n f.profiles in
    k ∙ given-named (named n f.profiles) (answer_from (findings vs q (rules_of n f.profiles)) asked) (subst Given k e)
given-read text (Refused number place) n q asked e = absurd (no-refusal (refusal_at text number place) e)

-- what is answered is the answer from the findings
pub answered : (text n path : List ℕ) (asked : ℕ) (owner : Bool) → Given (answer_of text n path asked owner)
    → answer_of text n path asked owner ≡ answer_from (findings_of text n path owner) asked
answered text n path asked owner e =
    let q : Access = record { path = path; owner = owner } in
    let a : Answer = answer_by text (file_of text) n q asked in
    let k = whole text n path asked owner in
    let c = k ∙ given-checked (ltb 65535 (length text)) (bad_path path) (bad_asked asked) a (subst Given k e) in
    c ∙ given-read text (file_of text) n q asked (subst Given c e)

-- "Unless a numbered refusal is given, findings and asked bits alone fix the whole answer", whatever the texts s and t, the profile names
-- m and n, the paths p and q and the owner marks o and u are
pub fixed : (s t m n p q : List ℕ) (asked : ℕ) (o u : Bool) → Given (answer_of s m p asked o) → Given (answer_of t n q asked u)
    → Equal (findings_of s m p o) (findings_of t n q u) → answer_of s m p asked o ≡ answer_of t n q asked u
fixed s t m n p q asked o u a b e =
    answered s m p asked o a ∙ answer-fixed (findings_of s m p o) (findings_of t n q u) asked e ∙ sym (answered t n q asked u b)

-- ---- two accepted texts

-- an accepted text answers by the rules of the asked profile
accepted : (s n path : List ℕ) (asked : ℕ) (owner : Bool) (f : File) → Accepted s f
    → answer_of s n path asked owner
    ≡ checked false (bad_path path) (bad_asked asked)
    (or_none (named n f.profiles) (answer_from (findings (final_sets [] f.preamble) (record { path = path; owner = owner }) (rules_of n f.profiles)) asked))
accepted s n path asked owner f a =
    whole s n path asked owner
    ∙ rw (le-ltb 65535 (length s) a.short, a.file)
    (ap (checked false (bad_path path) (bad_asked asked)) (in-named (final_sets [] f.preamble) (record { path = path; owner = owner }) asked n f.profiles))

-- a profile of an accepted file is found by its name
pub held : (s : List ℕ) (f : File) → Accepted s f → (p : Profile) → Memᴰ p f.profiles → (n : List ℕ) → p.name ≡ n
    → (named n f.profiles ≡ true) × (rules_of n f.profiles ≡ p.rules)
held s f a p m n e =
    subst (λ (x : List ℕ). (named x f.profiles ≡ true) × (rules_of x f.profiles ≡ p.rules)) e (member-named p f.profiles m, only_one s f a.file p m)

-- the same profile names, in whatever order, and the rules of each name
module _ (R : List Rule → List Rule → Type 0) (f g : File) (h : SameButRules R f g) (n : List ℕ) where
  names_same : named n f.profiles ≡ named n g.profiles
  names_same =
      iff (named n f.profiles) (named n g.profiles)
      (λ e. let w = found n f.profiles e in
      let q = h.there w.0 w.1 in
      subst (λ (m : List ℕ). named m g.profiles ≡ true) (sym q.2 ∙ w.2) (member-named q.0 g.profiles q.1))
      (λ e. let w = found n g.profiles e in
      let p = h.back w.0 w.1 in
      subst (λ (m : List ℕ). named m f.profiles ≡ true) (p.2 ∙ w.2) (member-named p.0 f.profiles p.1))

  rules-related : (t : List ℕ) → Accepted t g → named n f.profiles ≡ true → R (rules_of n f.profiles) (rules_of n g.profiles)
  rules-related t b e =
      let w = found n f.profiles e in
      let q = h.there w.0 w.1 in
      let k : rules_of n g.profiles ≡ q.0.rules = (held t g b q.0 q.1 n (sym q.2 ∙ w.2)).1 in
      subst (λ (xs : List Rule). R xs (rules_of n g.profiles)) (sym w.3) (subst (λ (ys : List Rule). R w.0.rules ys) (sym k) q.3)

-- what holds of the answers of two rule lists related by R, and of a refusal with itself, holds of the answers of two accepted texts
module _ (R : List Rule → List Rule → Type 0) (S : Answer → Answer → Type 0) (s t n path : List ℕ) (asked : ℕ) (owner : Bool) (f g : File) (self : (r : Refusal) → S (refusal r) (refusal r))
    (step : (vs : List Variable) (xs ys : List Rule) → R xs ys → S (answer_from (findings vs (record { path = path; owner = owner }) xs) asked) (answer_from (findings vs (record { path = path; owner = owner }) ys) asked)) (a : Accepted s f) (b : Accepted t g) where
  -- with the same preamble, of which both or neither hold the asked profile, and with rules related by R
  pub one_name : f.preamble ≡ g.preamble → named n f.profiles ≡ named n g.profiles
      → (named n f.profiles ≡ true → R (rules_of n f.profiles) (rules_of n g.profiles))
      → S (answer_of s n path asked owner) (answer_of t n path asked owner)
  one_name preamble names rules =
      rw (accepted s n path asked owner f a, accepted t n path asked owner g b, preamble)
      (checks (bad_path path) (bad_asked asked) (found (named n f.profiles) (named n g.profiles) names rules))
    where
      vs : List Variable
      vs = final_sets [] g.preamble

      of : List Rule → Answer
      of rs = answer_from (findings vs (record { path = path; owner = owner }) rs) asked

      x : Answer
      x = of (rules_of n f.profiles)

      y : Answer
      y = of (rules_of n g.profiles)

      found : (d e : Bool) → d ≡ e → (d ≡ true → R (rules_of n f.profiles) (rules_of n g.profiles)) → S (or_none d x) (or_none e y)
      found true true h k = step vs (rules_of n f.profiles) (rules_of n g.profiles) (k refl)
      found true false h k = absurd (false≢true (sym h))
      found false true h k = absurd (false≢true h)
      found false false h k = self (nowhere 11)

      checks : (p q : Bool) {u v : Answer} → S u v → S (checked false p q u) (checked false p q v)
      checks true q h = self (nowhere 2)
      checks false true h = self (nowhere 3)
      checks false false h = h

  pub texts-by : SameButRules R f g → S (answer_of s n path asked owner) (answer_of t n path asked owner)
  texts-by h = one_name h.preamble (names_same R f g h n) (rules-related R f g h n t b)
