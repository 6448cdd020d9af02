-- Every rule of an accepted text is whole.
use Rattle.std.proofs.Common.{Option, None, Some}
use Rattle.std.specs.Prelude.{Option, Some, None, if◌then◌else◌}
use Prim.Native.Nat.{ℕ, suc}
use Prim.Native.Char.{code}
use native.Mathlib.Omega.{arith}
use mathlib.Core.Path.{◌≡◌, refl, sym, ap, ap₂, ◌∙◌, subst}
use mathlib.Core.List.{List, [], ◌∷◌}
use mathlib.Core.Bool.{Bool, true, false, ◌||◌, ◌&&◌, false≢true, or-false, or-true}
use lib.ListN.{get_or, take, drop, take-append-drop}
use lib.Dec.{eqb}
use borrow.Author.Tests.{eqb-true}
use Rattle.scan.specs.Bytes.{bytes, same, holds, every, some, run}
use Rattle.scan.proofs.Bools.{and_left, and_right}
use Rattle.scan.proofs.Laws.{same-eq, some-append}
use Rattle.perms.specs.Sets.{has, perms}
use Rattle.perms.proofs.Laws.{has-set}
use Rattle.perms.specs.declared.Perms.{Perms}
use Rattle.modes.specs.Modes.{Row, modes, mode_in}
use Rattle.modes.specs.declared.Mode.{Mode}
use Rattle.perms_word.specs.Words.{letters, perm_letter, before_letters, mode_part, carried, carries, named, with_mode, word_of}
use Rattle.perms_word.specs.declared.Word.{Word}
use Rattle.text.specs.Reading.{refuse_if, judged}
use Rattle.tokens.specs.Tokens.{Token, comma, is_word, token_at, wanted}
use Rattle.pattern.specs.Faults.{pattern_fault}
use Rattle.rule_tail.specs.Tails.{Permissions, carried_by, perms_at, target_at, comma_at}
use Rattle.rule.specs.Rules.{Qualifiers, RuleRead, rule_end, rule_from}
use Rattle.preamble.specs.Preamble.{preamble_at}
use Rattle.profile.specs.Profiles.{File, file_of, file_within}
use Rattle.answer.specs.Answers.{x}
use Rattle.laws.specs.Orders.{Accepted}
use Rattle.laws.specs.Whole.{fits, whole, whole_file}
use Rattle.laws.proofs.Keeping.{Keeps, kept, refused, after, next, read_keeps, profiles-keep}

-- ---- the letter x

-- no letter is an x
no-x : (s : List ℕ) → every perm_letter s ≡ true → holds (code "x") s ≡ false
unfolding every some letters bytes
no-x [] e = refl
no-x (b ∷ s) e = go (eqb (code "x") b) refl (no-x s (and_right (perm_letter b) (every perm_letter s) e))
  where
    go : (c : Bool) → eqb (code "x") b ≡ c → holds (code "x") s ≡ false → (c || holds (code "x") s) ≡ false
    go true h k =
        absurd (false≢true (subst (λ (d : ℕ). perm_letter d ≡ true) (sym (eqb-true (code "x") b h)) (and_left (perm_letter b) (every perm_letter s) e)))
    go false h k = k

run-every : (p : ℕ → Bool) (s : List ℕ) → every p (take (run p s) s) ≡ true
unfolding every run
run-every p [] = refl
run-every p (b ∷ s) = go (p b) refl (run-every p s)
  where
    go : (c : Bool) → p b ≡ c → every p (take (run p s) s) ≡ true → every p (take (elim c as (λ _. ℕ) [ true ↦ suc (run p s) | false ↦ 0 ]) (b ∷ s)) ≡ true
    go true e h = rw e h
    go false e h = refl

before-x : (s : List ℕ) → holds (code "x") (before_letters s) ≡ holds (code "x") s
unfolding before_letters some
before-x [] = refl
before-x (b ∷ s) = go (every perm_letter (b ∷ s)) refl (before-x s)
  where
    go : (c : Bool) → every perm_letter (b ∷ s) ≡ c → holds (code "x") (before_letters s) ≡ holds (code "x") s
        → holds (code "x") (if c then [] else b ∷ before_letters s) ≡ holds (code "x") (b ∷ s)
    go true e h = sym (no-x (b ∷ s) e)
    go false e h = ap (λ (x : Bool). eqb (code "x") b || x) h

-- an x of a word stands in its mode part
mode-x : (w : List ℕ) → holds (code "x") w ≡ holds (code "x") (mode_part w)
mode-x w =
    let k : ℕ = run perm_letter w in
    ap (holds (code "x")) (sym (take-append-drop k w))
    ∙ some-append (eqb (code "x")) (take k w) (drop k w)
    ∙ ap₂ ◌||◌ (no-x (take k w) (run-every perm_letter w)) (sym (before-x (drop k w)))

-- every mode has an x
table-x : every (λ (r : Row). holds (code "x") (bytes r.word)) modes ≡ true
unfolding every some bytes
table-x = refl

abbrev Named : List ℕ → Option Mode → Type 0
Named w None = Unit {0}
Named w (Some m) = holds (code "x") w ≡ true

in_table : (rs : List Row) → every (λ (r : Row). holds (code "x") (bytes r.word)) rs ≡ true → (w : List ℕ) → Named w (mode_in rs w)
unfolding every mode_in
in_table [] e w = tt
in_table (r ∷ rs) e w = go (same w (bytes r.word)) refl (in_table rs (and_right (holds (code "x") (bytes r.word)) (every (λ (r : Row). holds (code "x") (bytes r.word)) rs) e) w)
  where
    go : (b : Bool) → same w (bytes r.word) ≡ b → Named w (mode_in rs w) → Named w (elim b as (λ _. Option Mode) [ true ↦ Some r.mode | false ↦ mode_in rs w ])
    go true h k =
        ap (holds (code "x")) (same-eq w (bytes r.word) h) ∙ and_left (holds (code "x") (bytes r.word)) (every (λ (r : Row). holds (code "x") (bytes r.word)) rs) e
    go false h k = k

-- ---- a word of permissions

abbrev Fits : Bool → Option Word → Type 0
Fits deny (Some w) = fits deny w.perms w.transition ≡ true
Fits deny None = Unit {0}

mode-fits : (deny : Bool) (p : Perms) (m : List ℕ) → has p.0 x ≡ holds (code "x") m → Fits deny (with_mode deny p m)
unfolding with_mode some
mode-fits deny p [] e = rw e (or-true deny)
mode-fits true p (b ∷ m) e = go (same (b ∷ m) (bytes "x"))
  where
    go : (c : Bool) → Fits true (elim c as (λ _. Option Word) [ true ↦ carries p None | false ↦ None ])
    go true = refl
    go false = tt
mode-fits false p (b ∷ m) e = go (mode_in modes (b ∷ m)) (in_table modes table-x (b ∷ m))
  where
    go : (t : Option Mode) → Named (b ∷ m) t → Fits false (named p t)
    go None h = tt
    go (Some k) h = e ∙ h

carries-x : (w : List ℕ) → has (carried w) x ≡ holds (code "x") w
unfolding carried letters bytes
carries-x w = has-set 7 (λ k. holds (get_or letters k 0) w || (eqb k 2 && holds (code "w") w)) x (omega arith) ∙ or-false (holds (code "x") w)

word_fits : (deny : Bool) (w : List ℕ) → Fits deny (word_of deny w)
unfolding word_of
word_fits deny [] = tt
word_fits deny (b ∷ w) = go (holds (code "w") (b ∷ w) && holds (code "a") (b ∷ w))
  where
    go : (c : Bool) → Fits deny (if c then None else with_mode deny (perms (carried (b ∷ w))) (mode_part (b ∷ w)))
    go true = tt
    go false = mode-fits deny (perms (carried (b ∷ w))) (mode_part (b ∷ w)) (carries-x (b ∷ w) ∙ mode-x (b ∷ w))

-- ---- rules and files

perms-fit : (deny : Bool) (s : List ℕ) (at : ℕ) → Keeps (λ (p : Permissions). fits deny p.perms p.transition ≡ true) (perms_at deny s at)
unfolding perms_at
perms-fit deny s at =
    next _ (wanted (token_at comma s at)) λ t.
    next _ (refuse_if (t.quoted || is_word t (bytes ",")) 4 t.start) λ u. go t (word_of deny t.content) (word_fits deny t.content)
  where
    go : (t : Token) (w : Option Word) → Fits deny w → Keeps (λ (p : Permissions). fits deny p.perms p.transition ≡ true) (carried_by t w)
    go t (Some w) h = kept h
    go t None h = refused

rule-whole : (fault : List ℕ → ℕ) (s : List ℕ) (q : Qualifiers) (t : Token) → Keeps (λ (r : RuleRead). whole r.rule ≡ true) (rule_from fault s q t)
unfolding rule_from rule_end
rule-whole fault s q t =
    next _ (judged (fault t.content) t.start) λ u.
    after _ (perms-fit q.deny s t.next) λ p h.
    next _ (target_at p.transition s p.next) λ to.
    next _ (comma_at s to.next) λ n. kept h

file-whole : (s : List ℕ) → Keeps (λ (f : File). whole_file f ≡ true) (file_of s)
unfolding file_of file_within
file-whole s =
    next _ (preamble_at 512 [] s 0) λ p.
    after _ (profiles-keep whole p.variables s (rule-whole (pattern_fault p.variables) s) 32 512 [] p.next) λ ps h. kept h

-- every rule of an accepted text is whole
pub accepted-whole : (text : List ℕ) (f : File) → Accepted text f → whole_file f ≡ true
accepted-whole text f a = read_keeps f (file-whole text) a.file
