-- "profile name used twice" is refused: in an accepted file each name stands for one profile.
use Prim.Native.Nat.{ℕ, zero, suc, ◌-◌}
use mathlib.Core.Path.{◌≡◌, refl, sym, ap, ◌∙◌, subst}
use mathlib.Core.List.Memᴰ
use mathlib.Core.List.{List, [], ◌∷◌, Memᴰ}
use mathlib.Core.Bool.{Bool, true, false, ◌||◌, false≢true}
use mathlib.Core.Logic.{⊎_elim}
use lib.ListN.{length}
use lib.Dec.{ltb}
use Rattle.scan.specs.Bytes.{same, some}
use Rattle.scan.proofs.Laws.{same-eq, same_self}
use Rattle.scan.proofs.Bools.{or_right}
use Rattle.text.specs.Reading.{Reading, Read, Refused, ◌>>=◌}
use Rattle.tokens.specs.Tokens.{Token, no_stop, token_at}
use Rattle.blanks.specs.Blanks.{standing}
use Rattle.keywords.specs.Keywords.{first_word, not_taken}
use Rattle.pattern.specs.Expansions.{Variable}
use Rattle.pattern.specs.Faults.{pattern_fault}
use Rattle.rule.specs.Rules.{Rule, rules_at}
use Rattle.preamble.specs.Preamble.{preamble_at}
use Rattle.heads.specs.Heads.{Head, name_at, open_at, head_at}
use Rattle.profile.specs.Profiles.{Profile, File, OneProfile, ends, profile_at, unless_end, profiles_at, file_of, file_within}
use Rattle.laws.specs.Asked.{named, rules_of}
use Rattle.laws.proofs.Steps.{never, inner, step, unless, passed}

-- ---- a profile by its name

pub found : (n : List ℕ) (ps : List Profile) → named n ps ≡ true → (p : Profile) × Memᴰ p ps × (p.name ≡ n) × (rules_of n ps ≡ p.rules)
unfolding named rules_of
found n [] e = absurd (false≢true e)
found n (p ∷ ps) e = go (same p.name n) refl (found n ps) e
  where
    go : (b : Bool) → same p.name n ≡ b → (named n ps ≡ true → (x : Profile) × Memᴰ x ps × (x.name ≡ n) × (rules_of n ps ≡ x.rules)) → (b || named n ps) ≡ true
        → (x : Profile) × Memᴰ x (p ∷ ps) × (x.name ≡ n) × ((elim b as (λ _. List Rule) [ true ↦ p.rules | false ↦ rules_of n ps ]) ≡ x.rules)
    go true h k e = (p, Memᴰ.head refl, same-eq p.name n h, refl)
    go false h k e = let w = k e in (w.0, Memᴰ.tail w.1, w.2, w.3)

pub member-named : (p : Profile) (ps : List Profile) → Memᴰ p ps → named p.name ps ≡ true
unfolding named
member-named p ps (Memᴰ.head {x = x} {xs = xs} e) = ap (λ (y : Profile). same y.name p.name || named p.name xs) (sym e) ∙ rw (same_self p.name)
member-named p ps (Memᴰ.tail {x = x} {xs = xs} m) = or_right (same x.name p.name) (named p.name xs) (member-named p xs m)

-- ---- names that are used

-- a head's name is not yet used
head-free : (full : Bool) (used : List (List ℕ)) (s : List ℕ) (at : ℕ) (h : Head) → head_at full used s at ≡ Read h → some (same h.name) used ≡ false
unfolding head_at
head-free full used s at h e =
    let a = step (name_at s at) _ h (unless (first_word not_taken s at) 5 (standing s at) _ h e) in
    let b = unless (full || ltb 255 (length a.0.content)) 9 a.0.start _ h a.2 in
    let c = step (open_at s a.0.next) _ h (unless (some (same a.0.content) used) 10 a.0.start _ h b) in
    by a.0 c.0 (passed (some (same a.0.content) used) 10 a.0.start _ h b) c.2
  where
    by : (t : Token) (next : ℕ) → some (same t.content) used ≡ false → Read (record { name = t.content; next = next }) ≡ Read h → some (same h.name) used ≡ false
    by t next f d = ap (λ (x : Head). some (same x.name) used) (inner d) ∙ f

-- of profiles read where some names are used, one has none of these, and is the first of its name
abbrev Once : (used : List (List ℕ)) → List Profile → Type 0
Once used ps = (p : Profile) → Memᴰ p ps → (some (same p.name) used ≡ false) × (rules_of p.name ps ≡ p.rules)

once-none : (used : List (List ℕ)) → Once used []
once-none used p m = absurd (Memᴰ.not-nil m)

once_more : (used : List (List ℕ)) (x : Profile) (ps : List Profile) → some (same x.name) used ≡ false → Once (x.name ∷ used) ps → Once used (x ∷ ps)
unfolding rules_of some
once_more used x ps f o p m = ⊎_elim here later (Memᴰ.cases_cons m)
  where
    here : p ≡ x → (some (same p.name) used ≡ false) × (rules_of p.name (x ∷ ps) ≡ p.rules)
    here e = subst (λ (y : Profile). (some (same y.name) used ≡ false) × (rules_of y.name (x ∷ ps) ≡ y.rules)) (sym e) (f, rw (same_self x.name, rules_of))

    neither : (a b : Bool) → (a || b) ≡ false → (a ≡ false) × (b ≡ false)
    neither true b e = absurd (false≢true (sym e))
    neither false b e = (refl, e)

    other : (b : Bool) → same x.name p.name ≡ b → same p.name x.name ≡ false → b ≡ false
    other true e h = absurd (false≢true (sym h ∙ ap (λ (n : List ℕ). same n x.name) (sym (same-eq x.name p.name e)) ∙ same_self x.name))
    other false e h = refl

    later : Memᴰ p ps → (some (same p.name) used ≡ false) × (rules_of p.name (x ∷ ps) ≡ p.rules)
    later n =
        let k = o p n in
        let d = neither (same p.name x.name) (some (same p.name) used) k.0 in
        (d.1, rw (other (same x.name p.name) refl d.0, rules_of) k.1)

-- ---- the profiles of a text

-- and so is a profile's
profile-free : (full : Bool) (rules_left : ℕ) (used : List (List ℕ)) (vs : List Variable) (s : List ℕ) (at : ℕ) (x : OneProfile) → profile_at full rules_left used vs s at ≡ Read x
    → some (same x.profile.name) used ≡ false
unfolding profile_at
profile-free full rules_left used vs s at x e =
    let a = step (head_at full used s at) _ x e in
    let b = step (rules_at rules_left (pattern_fault vs) s a.0.next) _ x a.2 in
    ap (λ (y : OneProfile). some (same y.profile.name) used) (inner b.2) ∙ head-free full used s at a.0 a.1

profiles-once : (left rules_left : ℕ) (used : List (List ℕ)) (vs : List Variable) (s : List ℕ) (at : ℕ) (ps : List Profile)
    → profiles_at left rules_left used vs s at ≡ Read ps → Once used ps
unfolding profiles_at unless_end
profiles-once zero rules_left used vs s at ps e = go (ends (token_at no_stop s at)) e
  where
    go : (b : Bool) → (elim b as (λ _. Reading (List Profile)) [ true ↦ Read [] | false ↦ profile_at true rules_left used vs s at >>= λ x. Refused 9 at ]) ≡ Read ps → Once used ps
    go true q = subst (Once used) (sym (inner q)) (once-none used)
    go false q = absurd (never (step (profile_at true rules_left used vs s at) _ ps q).2)
profiles-once (suc left) rules_left used vs s at ps e =
    go (λ x more. profiles-once left (rules_left - x.count) (x.profile.name ∷ used) vs s x.next more) (ends (token_at no_stop s at)) e
  where
    rest : OneProfile → Reading (List Profile)
    rest x = profiles_at left (rules_left - x.count) (x.profile.name ∷ used) vs s x.next

    go : ((x : OneProfile) (more : List Profile) → rest x ≡ Read more → Once (x.profile.name ∷ used) more) → (b : Bool)
        → (elim b as (λ _. Reading (List Profile)) [ true ↦ Read [] | false ↦ profile_at false rules_left used vs s at >>= λ x. rest x >>= λ more. Read (x.profile ∷ more) ]) ≡ Read ps
        → Once used ps
    go i true q = subst (Once used) (sym (inner q)) (once-none used)
    go i false q =
        let a = step (profile_at false rules_left used vs s at) _ ps q in
        let b = step (rest a.0) _ ps a.2 in
        subst (Once used) (sym (inner b.2)) (once_more used a.0.profile b.0 (profile-free false rules_left used vs s at a.0 a.1) (i a.0 b.0 b.1))

-- a profile of an accepted file is the one of its name
pub only_one : (s : List ℕ) (f : File) → file_of s ≡ Read f → (p : Profile) → Memᴰ p f.profiles → rules_of p.name f.profiles ≡ p.rules
unfolding file_of file_within
only_one s f e p m =
    let a = step (preamble_at 512 [] s 0) _ f e in
    let b = step (profiles_at 32 512 [] a.0.variables s a.0.next) _ f a.2 in
    let k : f.profiles ≡ b.0 = ap (λ (x : File). x.profiles) (inner b.2) in
    (subst (Once []) (sym k) (profiles-once 32 512 [] a.0.variables s a.0.next b.0 b.1) p m).1
