-- Pairs of texts that meet what the sentences of demand 3 suppose, so that none holds of nothing, and pairs that show where they stop.
use Rattle.std.specs.Prelude.{ℕ, ◌≡◌, refl, Bool, true, false, Option, None, Some}
use Prim.Native.String.{String}
use Rattle.std.proofs.Common.{sym, ap, subst, ⊎_elim, arith}
use mathlib.Core.List.Memᴰ
use mathlib.Core.List.{List, [], ◌∷◌, Memᴰ}
use Rattle.scan.specs.Bytes.{bytes}
use Rattle.perms.specs.Sets.{perms}
use Rattle.family.specs.Families.{SameRules, Added, none, kept, added}
use Rattle.modes.specs.declared.Kind.TheVariants as kind
use Rattle.modes.specs.declared.Fallback.TheVariants as fallback
use Rattle.modes.specs.declared.Mode.{Mode}
use Rattle.modes.specs.declared.Execute.{Execute}
use Rattle.modes.specs.declared.Execute.TheVariants.{Conflict, ByMode}
use Rattle.rule.specs.Rules.{Rule}
use Rattle.profile.specs.Profiles.{Profile, File}
use Rattle.findings.specs.Findings.{allows, denies, Equal}
use Rattle.decide.specs.Decide.{answer_of}
use Rattle.laws.specs.Computed.{computed}
use Rattle.laws.specs.Asked.{named, rules_of, findings_of, Given}
use Rattle.laws.specs.Orders.{Accepted, SameButRules}

-- a rule without audit, owner and target
abbrev pub rule : (deny : Bool) → String → ℕ → Option Mode → Rule
rule deny pattern set tr =
    record { audit = false; deny = deny; owner = false; pattern = bytes pattern; perms = perms set; transition = tr; target = [] }

abbrev ix : Mode
ix = record { kind = kind.Inherit; fallback = fallback.Absent; scrubs = false }

abbrev px : Mode
px = record { kind = kind.Profile; fallback = fallback.Absent; scrubs = false }

-- the file of one profile
abbrev pub only : String → List Rule → File
only name rules = record { preamble = []; profiles = record { name = bytes name; rules = rules } ∷ [] }

-- two files of one profile, of the same name
one-profile : (R : List Rule → List Rule → Type 0) (name : String) {xs ys : List Rule} → R xs ys → SameButRules R (only name xs) (only name ys)
one-profile R name {xs} {ys} h =
    record {
      preamble = refl;
      there = λ p m.
          let e = Memᴰ.eq_of_singleton m in
          (record { name = bytes name; rules = ys }, Memᴰ.head refl, ap (λ (x : Profile). x.name) e, subst (λ (x : Profile). R x.rules ys) (sym e) h);
      back = λ q m. (record { name = bytes name; rules = xs }, Memᴰ.head refl, ap (λ (x : Profile). x.name) (sym (Memᴰ.eq_of_singleton m)));
    }

-- ---- the same rules

abbrev pub ordered : String
ordered = "/p { /a r, /b w, }"

abbrev pub shuffled : String
shuffled = "profile /p { /b ww, # again\n \"/a\" r, allow /a rr, }"

abbrev pub read_a : Rule
read_a = rule false "/a" 1 None

abbrev pub write_b : Rule
write_b = rule false "/b" 6 None

pub ordered-file : Accepted (bytes ordered) (only "/p" (read_a ∷ write_b ∷ []))
unfolding computed
ordered-file = record { short = omega arith; file = refl }

pub shuffled-file : Accepted (bytes shuffled) (only "/p" (write_b ∷ read_a ∷ read_a ∷ []))
unfolding computed
shuffled-file = record { short = omega arith; file = refl }

in-none : (ys : List Rule) (r : Rule) → Memᴰ r [] → Memᴰ r ys
in-none ys r m = absurd (Memᴰ.not-nil m)

in-more : (x : Rule) (xs ys : List Rule) → Memᴰ x ys → ((r : Rule) → Memᴰ r xs → Memᴰ r ys) → (r : Rule) → Memᴰ r (x ∷ xs) → Memᴰ r ys
in-more x xs ys m h r w = ⊎_elim (λ e. Memᴰ.cast e m) (λ k. h r k) (Memᴰ.cases_cons w)

pub same-rules : SameButRules SameRules (only "/p" (read_a ∷ write_b ∷ [])) (only "/p" (write_b ∷ read_a ∷ read_a ∷ []))
same-rules =
    one-profile SameRules "/p" (
      in-more read_a (write_b ∷ []) _ (Memᴰ.tail (Memᴰ.head refl)) (in-more write_b [] _ (Memᴰ.head refl) (in-none _)),
      in-more write_b (read_a ∷ read_a ∷ []) _ (Memᴰ.tail (Memᴰ.head refl)) (in-more read_a (read_a ∷ []) _ (Memᴰ.head refl) (in-more read_a [] _ (Memᴰ.head refl) (in-none _))),
    )

-- ---- the profiles in another order

abbrev profile_p : Profile
profile_p = record { name = bytes "/p"; rules = read_a ∷ [] }

abbrev profile_q : Profile
profile_q = record { name = bytes "/q"; rules = write_b ∷ [] }

abbrev pq : File
pq = record { preamble = []; profiles = profile_p ∷ profile_q ∷ [] }

abbrev qp : File
qp = record { preamble = []; profiles = profile_q ∷ profile_p ∷ [] }

pub pq-file : Accepted (bytes "/p { /a r, } /q { /b w, }") pq
unfolding computed
pq-file = record { short = omega arith; file = refl }

pub qp-file : Accepted (bytes "profile /q { \"/b\" w, } /p { allow /a r, }") qp
unfolding computed
qp-file = record { short = omega arith; file = refl }

pub other-order : SameButRules SameRules pq qp
other-order =
    record {
      preamble = refl;
      there = λ p m. (p, swapped p profile_p profile_q m, refl, (λ r k. k, λ r k. k));
      back = λ q m. (q, swapped q profile_q profile_p m, refl);
    }
  where
    swapped : (p x y : Profile) → Memᴰ p (x ∷ y ∷ []) → Memᴰ p (y ∷ x ∷ [])
    swapped p x y m = ⊎_elim (λ e. Memᴰ.tail (Memᴰ.head e)) (λ k. Memᴰ.head (Memᴰ.eq_of_singleton k)) (Memᴰ.cases_cons m)

-- ---- deny rules added

abbrev pub opened : Rule
opened = rule false "/a*" 7 None

abbrev pub barred : Rule
barred = rule true "/ab" 6 None

pub open-file : Accepted (bytes "/p { /a* rw, }") (only "/p" (opened ∷ []))
unfolding computed
open-file = record { short = omega arith; file = refl }

pub barred-file : Accepted (bytes "/p { deny /ab w, /a* rw, deny /ab w, }") (only "/p" (barred ∷ opened ∷ barred ∷ []))
unfolding computed
barred-file = record { short = omega arith; file = refl }

pub denied-more : SameButRules (Added denies) (only "/p" (opened ∷ [])) (only "/p" (barred ∷ opened ∷ barred ∷ []))
denied-more = one-profile (Added denies) "/p" (added barred refl (kept opened (added barred refl none)))

-- ---- allow rules added

abbrev runs : Rule
runs = rule false "/bin/*" 64 (Some px)

abbrev inherits : Rule
inherits = rule false "/bin/c*" 64 (Some ix)

abbrev exact : Rule
exact = rule false "/bin/cat" 64 (Some ix)

pub runs-file : Accepted (bytes "/p { /bin/* px, }") (only "/p" (runs ∷ []))
unfolding computed
runs-file = record { short = omega arith; file = refl }

pub conflict-file : Accepted (bytes "/p { /bin/* px, /bin/c* ix, }") (only "/p" (runs ∷ inherits ∷ []))
unfolding computed
conflict-file = record { short = omega arith; file = refl }

pub exact-file : Accepted (bytes "/p { /bin/cat ix, /bin/* px, }") (only "/p" (exact ∷ runs ∷ []))
unfolding computed
exact-file = record { short = omega arith; file = refl }

pub allowed-more : SameButRules (Added allows) (only "/p" (runs ∷ [])) (only "/p" (runs ∷ inherits ∷ []))
allowed-more = one-profile (Added allows) "/p" (kept runs (added inherits refl none))

pub allowed-before : SameButRules (Added allows) (only "/p" (runs ∷ [])) (only "/p" (exact ∷ runs ∷ []))
allowed-before = one-profile (Added allows) "/p" (added exact refl (kept runs none))

abbrev asks : String → Execute
asks text = (answer_of (bytes text) (bytes "/p") (bytes "/bin/cat") 64 false).execute

-- "execute may be lost only to a conflict, and its transition may change": both happen
pub lost-to-conflict : (asks "/p { /bin/* px, }" ≡ ByMode px) × (asks "/p { /bin/* px, /bin/c* ix, }" ≡ Conflict)
unfolding computed
lost-to-conflict = (refl, refl)

pub transition-changes : (asks "/p { /bin/* px, }" ≡ ByMode px) × (asks "/p { /bin/cat ix, /bin/* px, }" ≡ ByMode ix)
unfolding computed
transition-changes = (refl, refl)

-- ---- other profiles

abbrev alone : File
alone = only "/p" (read_a ∷ [])

pub alone-file : Accepted (bytes "/p { /a r, }") alone
unfolding computed
alone-file = record { short = omega arith; file = refl }

pub both_hold : Memᴰ profile_p alone.profiles × Memᴰ profile_p qp.profiles
both_hold = (Memᴰ.head refl, Memᴰ.tail (Memᴰ.head refl))

-- ---- equal findings of two texts, on other paths and with other owner marks

abbrev reads : String
reads = "/p { /a r, deny /* k, }"

abbrev owner_reads : String
owner_reads = "profile q { deny /b k, owner /** r, }"

pub found_alike : Equal (findings_of (bytes reads) (bytes "/p") (bytes "/a") false) (findings_of (bytes owner_reads) (bytes "q") (bytes "/b") true)
unfolding computed named rules_of
found_alike = record { allowed = refl; allowed_audit = refl; denied = refl; denied_audit = refl; exact = λ m. refl; others = λ m. refl }

pub found-answered : Given (answer_of (bytes reads) (bytes "/p") (bytes "/a") 33 false) × Given (answer_of (bytes owner_reads) (bytes "q") (bytes "/b") 33 true)
unfolding computed
found-answered = (refl, refl)
