-- The table of profiles, as numbers, and what the code's values mean over the text: profile i has the places of its name at 4 * i,
-- the place where its rules start at 4 * i + 2, and their number at 4 * i + 3.
use Rattle.std.specs.Prelude.{ℕ, zero, suc, ◌+◌, ◌*◌, ◌≤◌, ◌≡◌, List, [], ◌∷◌, ◌++◌, get_or, Result, Ok, Err}
use Prim.Native.Char.{code}
use Rattle.text.specs.Reading.{Reading, Read, Refused, ◌>>=◌, refusal_at}
use Rattle.text.specs.Places.{refused_by}
use Rattle.text.specs.declared.Place.{Place}
use Rattle.pattern.specs.Expansions.{Variable}
use Rattle.pattern.specs.Faults.{pattern_fault}
use Rattle.pattern.specs.Table.{bytes_at, env}
use Rattle.text.specs.Places.{span_of}
use Rattle.text.specs.declared.Span.{Span}
use Rattle.text.specs.declared.Refusal.{Refusal}
use Rattle.text.specs.declared.Stop.{Stop}
use Rattle.statement.specs.Steps.{rules_from}
use Rattle.preamble.specs.Variables.{final_sets}
use Rattle.preamble.specs.Places.{State}
use Rattle.heads.specs.Places.{names_of}
use Rattle.profile.specs.Profiles.{Profile, File, OneProfile, file_within, profiles_at, rule_count, rules_in}
use Rattle.profile.specs.declared.Profiles.{Profiles}
use Rattle.profile.specs.declared.ProfileRead.{ProfileRead}
use Rattle.profile.specs.declared.ProfilesRead.{ProfilesRead}
use Rattle.profile.specs.declared.FileRead.{FileRead}

-- ---- the table

-- profile i, where patterns are judged so
abbrev pub profile_of : (fault : List ℕ → ℕ) → (text t : List ℕ) → ℕ → Profile
profile_of fault text t i =
    record { name = bytes_at text t (4 * i); rules = rules_from (get_or t (4 * i + 3) 0) fault text (get_or t (4 * i + 2) 0) }

-- k profiles from profile i on
unfoldable pub profiles_by : (fault : List ℕ → ℕ) → (text t : List ℕ) → (k i : ℕ) → List Profile
profiles_by fault text t zero i = []
profiles_by fault text t (suc k) i = profile_of fault text t i ∷ profiles_by fault text t k (i + 1)

-- under these variables
abbrev pub profiles_from : List Variable → (text t : List ℕ) → (k i : ℕ) → List Profile
profiles_from vs text t k i = profiles_by (pattern_fault vs) text t k i

-- where their patterns are not judged again
abbrev pub profiles_again : (text t : List ℕ) → (k i : ℕ) → List Profile
profiles_again text t k i = profiles_by (λ _. 0) text t k i

-- a new profile after the others, which are as they were
pub record OneMore (old : Profiles) (name : Span) (rules : Place) (k : ℕ) (new : Profiles) : Type 0 where
  pub count : new.count ≡ old.count + 1
  pub names : (s : List ℕ) → names_of s new.table new.count ≡ span_of s name ∷ names_of s old.table old.count
  pub last : (fault : List ℕ → ℕ) (s : List ℕ) →
      profiles_by fault s new.table new.count 0
      ≡ profiles_by fault s old.table old.count 0 ++ (record { name = span_of s name; rules = rules_from k fault s rules.0 } ∷ [])

-- ---- all profiles

-- as the code tells it
unfoldable pub seen_profile : List Variable → List ℕ → Result ProfileRead Stop → Reading OneProfile
seen_profile vs s (Ok r) =
    Read (record { profile = record { name = span_of s r.name; rules = rules_from r.count (pattern_fault vs) s r.rules.0 }; count = r.count; next = r.next.0 })
seen_profile vs s (Err stop) = refused_by stop

unfoldable pub seen_profiles : List Variable → List ℕ → Result ProfilesRead Stop → Reading (List Profile)
seen_profiles vs s (Ok r) = Read (profiles_from vs s r.profiles.table r.profiles.count 0)
seen_profiles vs s (Err stop) = refused_by stop

-- how many rules were read; none where they are refused
unfoldable pub rules_read : Reading (List Profile) → ℕ
rules_read (Read ps) = rules_in ps
rules_read (Refused n p) = 0

-- what is known besides: the profiles that were read are the same where their patterns are not judged again, and their rules are
-- counted, as many as were allowed at most
pub record Kept (vs : List Variable) (s : List ℕ) (allowed : ℕ) (r : ProfilesRead) : Type 0 where
  pub few : r.profiles.count ≤ 32
  pub again : profiles_again s r.profiles.table r.profiles.count 0 ≡ profiles_from vs s r.profiles.table r.profiles.count 0
  pub rules : r.rules ≡ rules_read (seen_profiles vs s (Ok r))
  pub fits : r.rules ≤ allowed

-- ---- the whole text

-- the profiles after the assignments, where so many rules are allowed
unfoldable pub profiles_of : (rules : ℕ) → List ℕ → Reading State → Reading (List Profile)
profiles_of rules s x = x >>= λ p. profiles_at 32 rules [] p.variables s p.next

-- a text is accepted with its variables and its profiles, or refused with a number, a line and a column
pub data Judged : Type 0 where
  Accepted : List Variable → List Profile → Judged
  Rejected : Refusal → Judged

unfoldable pub judged_of : List ℕ → Reading File → Judged
judged_of s (Read f) = Accepted (final_sets [] f.preamble) f.profiles
judged_of s (Refused n p) = Rejected (refusal_at s n p)

-- as the code tells it, with the table of variables
unfoldable pub seen_file : (text vars : List ℕ) → Result FileRead Refusal → Judged
seen_file s t (Ok r) = Accepted (env s t r.vars) (profiles_from (env s t r.vars) s r.profiles r.count 0)
seen_file s t (Err refusal) = Rejected refusal

-- the same, where a refusal has its place and not yet its line
abbrev pub seen_stopped : (text vars : List ℕ) → Result FileRead Stop → Judged
seen_stopped s t (Ok r) = seen_file s t (Ok r)
seen_stopped s t (Err stop) = Rejected (refusal_at s stop.number stop.place.0)

-- and what is known besides
pub record FileKept (s t : List ℕ) (allowed : ℕ) (r : FileRead) : Type 0 where
  pub set : r.vars ≤ 32
  pub few : r.count ≤ 32
  pub again : profiles_again s r.profiles r.count 0 ≡ profiles_from (env s t r.vars) s r.profiles r.count 0
  pub rules : r.rules ≡ rule_count (file_within allowed s)
  pub fits : r.rules ≤ allowed
