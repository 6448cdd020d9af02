-- The profiles of a text, and the whole text.
use Rattle.std.specs.Prelude.{ℕ, zero, suc, ◌+◌, ◌-◌, List, [], ◌∷◌, Bool, true, false, length}
use Rattle.scan.specs.Bytes.{bytes, some}
use Rattle.text.specs.Reading.{Reading, Read, Refused, ◌>>=◌}
use Rattle.tokens.specs.Tokens.{Next, Found, Stopped, End, no_stop, token_at}
use Rattle.pattern.specs.Expansions.{Variable}
use Rattle.pattern.specs.Faults.{pattern_fault}
use Rattle.rule.specs.Rules.{Rule, RulesRead, rules_at}
use Rattle.preamble.specs.Variables.{Assignment}
use Rattle.preamble.specs.Preamble.{preamble_at}
use Rattle.heads.specs.Heads.{head_at}

-- ---- what an accepted text means: a file of bytes

pub record Profile : Type 0 where
  pub name : List ℕ
  pub rules : List Rule

pub record File : Type 0 where
  pub preamble : List Assignment
  pub profiles : List Profile

-- ---- all profiles

abbrev pub ends : Next → Bool
ends (Found t) = false
ends (Stopped n p) = false
ends (End p) = true

-- a profile, how many rules it has, and where reading goes on
pub record OneProfile : Type 0 where
  pub profile : Profile
  pub count : ℕ
  pub next : ℕ

abbrev pub one_profile : (name : List ℕ) → RulesRead → OneProfile
one_profile n rs = record { profile = record { name = n; rules = rs.rules }; count = length rs.rules; next = rs.next }

-- the profile at a place, where no more profile or so many more rules are allowed, and some names are used
unfoldable pub profile_at : (full : Bool) → (rules_left : ℕ) → (used : List (List ℕ)) → List Variable → List ℕ → ℕ → Reading OneProfile
profile_at full rules_left used vs s at = do
  h ← head_at full used s at
  rs ← rules_at rules_left (pattern_fault vs) s h.next
  Read (one_profile h.name rs)

-- nothing more where the text ends
unfoldable pub unless_end : List ℕ → ℕ → Reading (List Profile) → Reading (List Profile)
unless_end s at more = elim (ends (token_at no_stop s at)) [ true ↦ Read [] | false ↦ more ]

-- the profiles from a place on, where so many more profiles and rules are allowed; one too many is refused, by its head at the latest
unfoldable pub profiles_at : (left rules_left : ℕ) → (used : List (List ℕ)) → List Variable → List ℕ → ℕ → Reading (List Profile)
profiles_at zero rules_left used vs s at = unless_end s at (profile_at true rules_left used vs s at >>= λ x. Refused 9 at)
profiles_at (suc left) rules_left used vs s at = unless_end s at (do
  x ← profile_at false rules_left used vs s at
  more ← profiles_at left (rules_left - x.count) (x.profile.name ∷ used) vs s x.next
  Read (x.profile ∷ more))

-- "Comments, variable assignments, then profiles with file rules. Sizes: 32 profiles, .. 32 variables, 16 values each", and so many rules
unfoldable pub file_within : (rules : ℕ) → List ℕ → Reading File
file_within rules s = do
  p ← preamble_at 512 [] s 0
  ps ← profiles_at 32 rules [] p.variables s p.next
  Read (record { preamble = p.assignments; profiles = ps })

-- "512 rules in the file"
unfoldable pub file_of : List ℕ → Reading File
file_of s = file_within 512 s

-- ---- how many rules there are

-- in all these profiles
unfoldable pub rules_in : List Profile → ℕ
rules_in [] = 0
rules_in (p ∷ ps) = length p.rules + rules_in ps

-- in an accepted text; none in a refused one
unfoldable pub rule_count : Reading File → ℕ
rule_count (Read f) = rules_in f.profiles
rule_count (Refused n p) = 0
