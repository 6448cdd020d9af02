-- Demand 3 on texts: rules in another order, deny rules added, allow rules added, other profiles.
use Prim.Native.Nat.{ℕ}
use mathlib.Core.Path.{◌≡◌, refl, sym, ap, ◌∙◌, subst}
use mathlib.Core.List.{List, Memᴰ}
use mathlib.Core.Bool.{Bool, true}
use mathlib.Core.Logic.{inl}
use Rattle.scan.specs.Bytes.{every}
use Rattle.scan.proofs.Bools.{and_left, and_right}
use Rattle.text.specs.declared.Refusal.{Refusal}
use Rattle.family.specs.Families.{SameRules, Added}
use Rattle.pattern.specs.Expansions.{Variable}
use Rattle.rule.specs.Rules.{Rule}
use Rattle.profile.specs.Profiles.{Profile, File}
use Rattle.findings.specs.Findings.{allows, denies, findings}
use Rattle.answer.specs.Answers.{answer_from, refusal}
use Rattle.answer.specs.declared.Answer.{Answer}
use Rattle.decide.specs.Decide.{answer_of}
use Rattle.laws.specs.Asked.{rules_of}
use Rattle.laws.specs.Orders.{Accepted, SameButRules, NoMore, NoLess}
use Rattle.laws.specs.Whole.{whole}
use Rattle.laws.proofs.Texts.{held, one_name, texts-by}
use Rattle.laws.proofs.Whole.{accepted-whole}
use Rattle.laws.proofs.Answers.{rules-same, deny-less, allow-no-less}

-- ---- the sentences on texts

-- "If each profile holds the same rules, in whatever order and each however often, every request gets the same answer."
pub any_order : (s t name path : List ℕ) (asked : ℕ) (owner : Bool) (f g : File) → Accepted s f → Accepted t g → SameButRules SameRules f g
    → answer_of s name path asked owner ≡ answer_of t name path asked owner
any_order s t name path asked owner f g a b same =
    texts-by SameRules (λ x y. x ≡ y) s t name path asked owner f g (λ r. refl)
    (λ vs xs ys h. rules-same vs (record { path = path; owner = owner }) asked xs ys h) a b same

-- ---- rules added

every_in : {A : Type 0} (t : A → Bool) (x : A) (xs : List A) → every t xs ≡ true → Memᴰ x xs → t x ≡ true
unfolding every
every_in t x xs e (Memᴰ.head {x = y} {xs = ys} h) = ap t h ∙ and_left (t y) (every t ys) e
every_in t x xs e (Memᴰ.tail {x = y} {xs = ys} m) = every_in t x ys (and_right (t y) (every t ys) e) m

-- the rules of accepted texts are whole: what is to be shown of their answers may be shown of those from lists of whole rules
module _ (s t name path : List ℕ) (asked : ℕ) (owner : Bool) (f g : File) (a : Accepted s f) (b : Accepted t g) where
  whole-texts : (R : List Rule → List Rule → Type 0) (S : Answer → Answer → Type 0) → ((r : Refusal) → S (refusal r) (refusal r))
      → ((vs : List Variable) (xs ys : List Rule) → every whole xs ≡ true → every whole ys ≡ true → R xs ys
      → S (answer_from (findings vs (record { path = path; owner = owner }) xs) asked) (answer_from (findings vs (record { path = path; owner = owner }) ys) asked))
      → SameButRules R f g → S (answer_of s name path asked owner) (answer_of t name path asked owner)
  whole-texts R S self step h =
      texts-by (λ xs ys. R xs ys × (every whole xs ≡ true) × (every whole ys ≡ true)) S s t name path asked owner f g self (λ vs xs ys k. step vs xs ys k.1 k.2 k.0) a b
      (record {
        preamble = h.preamble;
        there = λ p m. let q = h.there p m in (q.0, q.1, q.2, (q.3, all_whole s f a p m, all_whole t g b q.0 q.1));
        back = h.back;
      })
    where
      all_whole : (u : List ℕ) (e : File) → Accepted u e → (p : Profile) → Memᴰ p e.profiles → every whole p.rules ≡ true
      all_whole u e c p = every_in (λ (p : Profile). every whole p.rules) p e.profiles (accepted-whole u e c)

refusal-no-more : (r : Refusal) → NoMore (refusal r) (refusal r)
refusal-no-more r = record { bits = λ k h e. e; transition = λ m e. (e, refl) }

refusal-no-less : (r : Refusal) → NoLess (refusal r) (refusal r)
refusal-no-less r = record { bits = λ k h e. e; execute = λ e. inl e }

-- "With deny rules added, wherever, no bit and no transition is granted that wasn't before."
pub deny-added : (s t name path : List ℕ) (asked : ℕ) (owner : Bool) (f g : File) → Accepted s f → Accepted t g → SameButRules (Added denies) f g
    → NoMore (answer_of s name path asked owner) (answer_of t name path asked owner)
deny-added s t name path asked owner f g a b same =
    whole-texts s t name path asked owner f g a b (Added denies) NoMore refusal-no-more
    (λ vs xs ys. deny-less vs (record { path = path; owner = owner }) asked xs ys) same

-- "With allow rules added, wherever, every granted bit but execute stays granted; execute may be lost only to a conflict, and its
-- transition may change."
pub allow-added : (s t name path : List ℕ) (asked : ℕ) (owner : Bool) (f g : File) → Accepted s f → Accepted t g → SameButRules (Added allows) f g
    → NoLess (answer_of s name path asked owner) (answer_of t name path asked owner)
allow-added s t name path asked owner f g a b same =
    whole-texts s t name path asked owner f g a b (Added allows) NoLess refusal-no-less
    (λ vs xs ys. allow-no-less vs (record { path = path; owner = owner }) asked xs ys) same

-- ---- other profiles

-- "With the same preamble and the same rules in the asked profile, two accepted files that both hold it answer alike, whatever their
-- other profiles hold."
pub other-profiles : (s t name path : List ℕ) (asked : ℕ) (owner : Bool) (f g : File) (p q : Profile) → Accepted s f → Accepted t g → f.preamble ≡ g.preamble
    → Memᴰ p f.profiles → Memᴰ q g.profiles → p.name ≡ name → q.name ≡ name → SameRules p.rules q.rules
    → answer_of s name path asked owner ≡ answer_of t name path asked owner
other-profiles s t name path asked owner f g p q a b same m k d e rules =
    let x = held s f a p m name d in
    let y = held t g b q k name e in
    one_name SameRules (λ u v. u ≡ v) s t name path asked owner f g (λ r. refl) (λ vs xs ys h. rules-same vs (record { path = path; owner = owner }) asked xs ys h) a b
    same (x.0 ∙ sym y.0)
    (λ _. subst (λ (rs : List Rule). SameRules rs (rules_of name g.profiles)) (sym x.1) (subst (λ (rs : List Rule). SameRules p.rules rs) (sym y.1) rules))
