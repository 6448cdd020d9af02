-- Every rule of an accepted text is good: its pattern has no fault, its permissions are some of the seven, its target is none or has the
-- form of one.
use Rattle.std.proofs.Common.{Option}
use Prim.Native.Nat.{ℕ, ◌+◌}
use Prim.Native.Char.{code}
use mathlib.Core.Path.{◌≡◌, refl, sym, ap₂, subst}
use mathlib.Core.List.{List, [], ◌∷◌}
use mathlib.Core.Bool.{Bool, true, false, not, ◌||◌, ◌&&◌, false≢true}
use lib.ListN.{length}
use lib.Dec.{eqb, ltb, leb}
use borrow.Author.Tests.{eq-eqb, le-leb, lt-ltb, ltb-false, not-false}
use Rattle.scan.specs.Bytes.{bytes, every, letter, digit}
use Rattle.scan.proofs.Bools.{and_left, and_right}
use Rattle.modes.specs.declared.Mode.{Mode}
use Rattle.text.specs.Reading.{Reading, Read, ◌>>=◌, refuse_if}
use Rattle.blanks.specs.Blanks.{standing, stands_at}
use Rattle.tokens.specs.Tokens.{Token, comma, token_at, wanted}
use Rattle.names.specs.Names.{name_byte, name_form, name_start}
use Rattle.pattern.specs.Expansions.{Variable}
use Rattle.pattern.specs.Faults.{pattern_fault}
use Rattle.rule_tail.specs.Tails.{Target, comma_at, perms_at, takes_target, target_at}
use Rattle.rule.specs.Rules.{Qualifiers, RuleRead, rule_end, rule_from}
use Rattle.weigh.proofs.Sound.{perms-below}
use Rattle.preamble.specs.Variables.{final_sets}
use Rattle.preamble.specs.Preamble.{Preamble, preamble_at}
use Rattle.preamble.proofs.Laws.{preamble-sets}
use Rattle.profile.specs.Profiles.{File, Profile, file_within, profiles_at}
use Rattle.asking.specs.Asking.{good, good_end, good_target}
use Rattle.laws.proofs.Steps.{inner, step}
use Rattle.laws.proofs.Keeping.{Keeps, kept, after, next, after_read, after_test, after-judged, read_keeps, profiles-keep}

-- ---- targets

every_more : {A : Type 0} (p q : A → Bool) (xs : List A) → ((x : A) → p x ≡ true → q x ≡ true) → every p xs ≡ true → every q xs ≡ true
unfolding every
every_more p q [] f e = refl
every_more p q (x ∷ xs) f e = ap₂ ◌&&◌ (f x (and_left (p x) (every p xs) e)) (every_more p q xs f (and_right (p x) (every p xs) e))

-- what may stand in a name may stand in a quoted one
name-quoted : (quoted : Bool) (s : List ℕ) → name_form quoted s ≡ true → name_form true s ≡ true
unfolding name_form
name-quoted true s e = e
name-quoted false s e =
    ap₂ ◌&&◌ (and_left (name_start s) (every (name_byte false) s) e) (every_more (name_byte false) (name_byte true) s (λ b. more (plain b) (eqb b (code " "))) (and_right (name_start s) (every (name_byte false) s) e))
  where
    plain : ℕ → Bool
    plain b = letter b || digit b || eqb b (code "/") || eqb b (code ".") || eqb b (code "_") || eqb b (code "-") || eqb b (code "+")

    more : (a b : Bool) → (a || false) ≡ true → (a || b) ≡ true
    more true b e = refl
    more false b e = absurd (false≢true e)

name-good : (tr : Option Mode) (s : List ℕ) → takes_target tr ≡ true → name_form true s ≡ true → leb (length s) 255 ≡ true → good_target tr s ≡ true
unfolding good_target
name-good tr [] a b c = refl
name-good tr (x ∷ s) a b c = ap₂ ◌&&◌ (ap₂ ◌&&◌ a b) c

target-good : (tr : Option Mode) (s : List ℕ) (at : ℕ) → Keeps (λ (x : Target). good_target tr x.target ≡ true) (target_at tr s at)
unfolding target_at good_target
target-good tr s at = go (stands_at (bytes "->") s at)
  where
    go : (b : Bool) → Keeps (λ (x : Target). good_target tr x.target ≡ true)
        (elim b as (λ _. Reading Target) [
          | false ↦ Read (record { target = []; next = at })
          | true ↦
              refuse_if (not (takes_target tr)) 8 (standing s at) >>= λ _.
              wanted (token_at comma s (standing s at + 2)) >>= λ t.
              refuse_if (not (name_form t.quoted t.content)) 4 t.start >>= λ _.
              refuse_if (ltb 255 (length t.content)) 9 t.start >>= λ _. Read (record { target = t.content; next = t.next })
        ])
    go false = kept refl
    go true =
        after_test _ _ _ _ λ a.
        next _ (wanted (token_at comma s (standing s at + 2))) λ t.
        after_test _ _ _ _ λ b.
        after_test _ _ _ _ λ c.
        kept (name-good tr t.content (not-false _ a) (name-quoted t.quoted t.content (not-false _ b)) (le-leb (length t.content) 255 (ltb-false 255 (length t.content) c)))

-- ---- rules and files

rule-good : (vs : List Variable) (s : List ℕ) (q : Qualifiers) (t : Token) → Keeps (λ (r : RuleRead). good vs r.rule ≡ true) (rule_from (pattern_fault vs) s q t)
unfolding rule_from rule_end good good_end
rule-good vs s q t =
    after-judged (pattern_fault vs t.content) t.start _ λ a.
    after_read _ (perms_at q.deny s t.next) λ p f.
    after _ (target-good p.transition s p.next) λ to b.
    next _ (comma_at s to.next) λ n. kept (ap₂ ◌&&◌ (eq-eqb _ 0 a) (ap₂ ◌&&◌ (lt-ltb _ 128 (perms-below q.deny s t.next p f)) b))

-- under the variables that the file sets
abbrev pub good_file : File → Type 0
good_file f = every (λ (p : Profile). every (good (final_sets [] f.preamble)) p.rules) f.profiles ≡ true

pub file-good : (rooms : ℕ) (s : List ℕ) (f : File) → file_within rooms s ≡ Read f → good_file f
unfolding file_within
file-good rooms s f e =
    let w = step (preamble_at 512 [] s 0) (λ (p : Preamble). profiles_at 32 rooms [] p.variables s p.next >>= λ ps. Read (record { preamble = p.assignments; profiles = ps })) f e in
    let p : Preamble = w.0 in
    let v = step (profiles_at 32 rooms [] p.variables s p.next) (λ ps. Read (record { preamble = p.assignments; profiles = ps })) f w.2 in
    let vs : List Variable = p.variables in
    let k : every (λ (p : Profile). every (good vs) p.rules) v.0 ≡ true = read_keeps v.0 (profiles-keep (good vs) vs s (rule-good vs s) 32 rooms [] p.next) v.1 in
    let h : every (λ (x : Profile). every (good (final_sets [] p.assignments)) x.rules) v.0 ≡ true =
    subst (λ (us : List Variable). every (λ (x : Profile). every (good us) x.rules) v.0 ≡ true) (preamble-sets 512 [] s 0 p w.1) k in
    subst good_file (sym (inner v.2)) h
