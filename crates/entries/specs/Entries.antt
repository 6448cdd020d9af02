-- What a table of rule records and its head say over the text, and what reading fills them with.
use Rattle.std.specs.Prelude.{ℕ, zero, suc, ◌+◌, ◌*◌, min, List, [], ◌∷◌, ◌++◌, map, length, get_or, take, drop, ltb, if◌then◌else◌}
use Rattle.text.specs.Reading.{Reading, Read, Refused, nowhere, refusal_at}
use Rattle.text.specs.declared.Refusal.{Refusal}
use Rattle.pattern.specs.Expansions.{Variable}
use Rattle.pattern.specs.Table.{bytes_at, env}
use Rattle.rule.specs.Rules.{Rule}
use Rattle.rule.specs.Places.{rule_of}
use Rattle.words.specs.Words.{front_of}
use Rattle.words.specs.declared.Front.{Front}
use Rattle.preamble.specs.Variables.{final_sets}
use Rattle.profile.specs.Profiles.{Profile, File, file_within}
use Rattle.entries.specs.declared.Record.{Record}

-- ---- one record

-- "each with the rule's profile, qualifiers, permissions, transition and the places of its pattern and target in the text": the profile
-- by its number, the rule with its bytes instead of their places, and the words of the pattern's front
pub record Entry : Type 0 where
  pub profile : ℕ
  pub rule : Rule
  pub front : Front

abbrev pub entry_of : List ℕ → Record → Entry
entry_of s r = record { profile = r.rule.profile; rule = rule_of s r.rule; front = r.front }

-- ---- all that is known of a text: its variables, the names of its profiles, its rules

pub record Policy : Type 0 where
  pub variables : List Variable
  pub names : List (List ℕ)
  pub entries : List Entry

-- of an accepted text: a rule of profile i
abbrev pub entry : (i : ℕ) → Rule → Entry
entry i r = record { profile = i; rule = r; front = front_of r.pattern }

-- the rules of the profiles from profile i on
unfoldable pub entries_from : (i : ℕ) → List Profile → List Entry
entries_from i [] = []
entries_from i (p ∷ ps) = map (entry i) p.rules ++ entries_from (i + 1) ps

unfoldable pub policy_of : File → Policy
policy_of f =
    record {
      variables = final_sets [] f.preamble;
      names = map (λ (p : Profile). p.name) f.profiles;
      entries = entries_from 0 f.profiles;
    }

-- as a head and a table tell it, whatever they hold: the head has the table of variables at 0, the table of profiles at 1120, the
-- number of variables at 1248, that of profiles at 1249, that of rules at 1250

-- the names of k profiles from profile i on of a table of profiles
unfoldable pub names_from : (text t : List ℕ) → (k i : ℕ) → List (List ℕ)
names_from text t zero i = []
names_from text t (suc k) i = bytes_at text t (4 * i) ∷ names_from text t k (i + 1)

unfoldable pub policy_in : (text head : List ℕ) → List Record → Policy
policy_in text head table =
    record {
      variables = env text head (get_or head 1248 0);
      names = names_from text (drop 1120 head) (min 32 (get_or head 1249 0)) 0;
      entries = map (entry_of text) (take (get_or head 1250 0) table);
    }

-- "hands back their count": the numbers of variables, profiles and rules, as a head has them and as they are told
abbrev pub numbers_in : (head : List ℕ) → List ℕ
numbers_in head = get_or head 1248 0 ∷ get_or head 1249 0 ∷ get_or head 1250 0 ∷ []

abbrev pub numbers_of : Policy → List ℕ
numbers_of p = length p.variables ∷ length p.names ∷ length p.entries ∷ []

-- ---- reading

-- a head that is too short is told; a text is rejected with a number, a line and a column, or accepted
pub data Told : Type 0 where
  Short : Told
  Rejected : Refusal → Told
  Accepted : Policy → Told

abbrev pub told_of : List ℕ → Reading File → Told
told_of s (Read f) = Accepted (policy_of f)
told_of s (Refused n p) = Rejected (refusal_at s n p)

-- 1, then the text's own refusals; "If the table has fewer records than the file has rules, refusal 9 at the pattern of the first rule
-- that found no place, in the order of one rule too many."
unfoldable pub read_of : (head rooms : ℕ) → (text : List ℕ) → Told
read_of head rooms text =
    if ltb head 1256 then Short else if ltb 65535 (length text) then Rejected (nowhere 1) else told_of text (file_within (min 512 rooms) text)
