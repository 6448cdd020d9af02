-- The rules of a text as they are written, token by token, and when two rules are the same.
use Rattle.std.specs.Prelude.{ℕ, zero, suc, ◌+◌, ◌≡◌, Option, Some, None, Bool, true, false, if◌then◌else◌}
use mathlib.Core.List.{List, [], ◌∷◌, ◌++◌, map, Memᴰ}
use Rattle.scan.specs.Bytes.{bytes, same, holds, some}
use Rattle.perms.specs.Sets.{perms}
use Rattle.perms.specs.declared.Perms.{Perms}
use Rattle.modes.specs.declared.Mode.{Mode}
use Rattle.perms_word.specs.Words.{mode_part, carried, with_mode}
use Rattle.perms_word.specs.declared.Word.{Word}
use Rattle.text.specs.Reading.{Reading, Read, Refused, ◌>>=◌}
use Rattle.blanks.specs.Blanks.{standing, stands_at}
use Rattle.tokens.specs.Tokens.{comma, no_stop, token_at, wanted}
use Rattle.rule_tail.specs.Tails.{comma_at}
use Rattle.rule.specs.Rules.{Rule, Optional, optional, qualifiers_at}
use Rattle.preamble.specs.Variables.{Assignment}
use Rattle.preamble.specs.Preamble.{preamble_at}
use Rattle.heads.specs.Heads.{name_at, open_at}
use Rattle.profile.specs.Profiles.{Profile, File, ends}
use Rattle.laws.specs.Orders.{Accepted}

-- ---- the tokens of a rule

-- "[audit] [allow|deny] [owner] PATTERN PERMS [-> TARGET] ,": the words before the pattern, the pattern, PERMS and the target if there
-- is one, without their quotes; and where the next rule starts
pub record Written : Type 0 where
  pub qualifiers : List (List ℕ)
  pub pattern : List ℕ
  pub perms : List ℕ
  pub target : List (List ℕ)
  pub next : ℕ

-- a word, where it was found; the four words, each where it was found
abbrev pub word_if : Bool → List ℕ → List (List ℕ)
word_if found w = if found then w ∷ [] else []

unfoldable pub words_by : (audit allow deny owner : Bool) → List (List ℕ)
words_by a l d o = word_if a (bytes "audit") ++ (word_if l (bytes "allow") ++ (word_if d (bytes "deny") ++ word_if o (bytes "owner")))

-- "[audit] [allow|deny] [owner]"
unfoldable pub qualifier_words : List ℕ → ℕ → List (List ℕ)
qualifier_words s at =
    let a : Optional = optional (bytes "audit") s at in
    let l : Optional = optional (bytes "allow") s a.next in
    let d : Optional = if l.found then record { found = false; next = l.next } else optional (bytes "deny") s l.next in
    let o : Optional = optional (bytes "owner") s d.next in
    words_by a.found l.found d.found o.found

-- the target's bytes, where there is one, and where reading goes on
pub record Targets : Type 0 where
  pub words : List (List ℕ)
  pub next : ℕ

-- "[-> TARGET]"
unfoldable pub targets_at : List ℕ → ℕ → Reading Targets
targets_at s at =
    elim (stands_at (bytes "->") s at) [
      | false ↦ Read (record { words = []; next = at })
      | true ↦ do
        t ← wanted (token_at comma s (standing s at + 2))
        Read (record { words = t.content ∷ []; next = t.next })
    ]

-- the tokens of the rule at a place
unfoldable pub written_at : List ℕ → ℕ → Reading Written
written_at s at = do
  t ← wanted (token_at no_stop s (qualifiers_at s at).next)
  p ← wanted (token_at comma s t.next)
  to ← targets_at s p.next
  next ← comma_at s to.next
  Read (record { qualifiers = qualifier_words s at; pattern = t.content; perms = p.content; target = to.words; next = next })

-- ---- the same rules

-- "Rules are the same when their tokens are, quotes, a written allow and the order or repeating of letters in PERMS aside": PERMS holds
-- the same letters and the same mode
pub record SameTokens (v w : Written) : Type 0 where
  pub qualifiers : (word : List ℕ) → same word (bytes "allow") ≡ false → some (same word) v.qualifiers ≡ some (same word) w.qualifiers
  pub pattern : v.pattern ≡ w.pattern
  pub letters : (letter : ℕ) → holds letter v.perms ≡ holds letter w.perms
  pub mode : mode_part v.perms ≡ mode_part w.perms
  pub target : v.target ≡ w.target

-- ---- what the tokens of a rule say

-- what a word carries, and its transition; nothing where it is bad
abbrev pub perms_by : Option Word → Perms
perms_by (Some w) = w.perms
perms_by None = perms 0

abbrev pub transition_by : Option Word → Option Mode
transition_by (Some w) = w.transition
transition_by None = None

-- the target, empty where there is none
abbrev pub target_by : List (List ℕ) → List ℕ
target_by [] = []
target_by (t ∷ ts) = t

-- what PERMS says: the permissions of its letters, and its mode
abbrev pub says : (deny : Bool) → List ℕ → Option Word
says deny w = with_mode deny (perms (carried w)) (mode_part w)

-- the rule that the tokens say
unfoldable pub meaning : Written → Rule
meaning w =
    let has : List ℕ → Bool = λ word. some (same word) w.qualifiers in
    let said : Option Word = says (has (bytes "deny")) w.perms in
    record {
      audit = has (bytes "audit");
      deny = has (bytes "deny");
      owner = has (bytes "owner");
      pattern = w.pattern;
      perms = perms_by said;
      transition = transition_by said;
      target = target_by w.target;
    }

-- ---- a whole text

-- the rules of a profile, and where reading goes on
pub record WrittenRules : Type 0 where
  pub rules : List Written
  pub next : ℕ

-- no rule where the } that ends the profile stands
unfoldable pub unless_closed : List ℕ → ℕ → Reading WrittenRules → Reading WrittenRules
unless_closed s at more = elim (stands_at (bytes "}") s at) [ true ↦ Read (record { rules = []; next = standing s at + 1 }) | false ↦ more ]

-- the rules from a place on, at most so many
unfoldable pub rules_written : (left : ℕ) → List ℕ → ℕ → Reading WrittenRules
rules_written zero s at = unless_closed s at (Refused 9 (standing s at))
rules_written (suc left) s at = unless_closed s at (do
  w ← written_at s at
  more ← rules_written left s w.next
  Read (record { rules = w ∷ more.rules; next = more.next }))

-- a profile: its name and the tokens of its rules
pub record WrittenProfile : Type 0 where
  pub name : List ℕ
  pub rules : List Written

-- the profiles from a place on, up to the text's end or so many
unfoldable pub profiles_written : (left : ℕ) → List ℕ → ℕ → Reading (List WrittenProfile)
profiles_written zero s at = Read []
profiles_written (suc left) s at =
    elim (ends (token_at no_stop s at)) [
      | true ↦ Read []
      | false ↦ do
        t ← name_at s at
        next ← open_at s t.next
        rs ← rules_written 512 s next
        more ← profiles_written left s rs.next
        Read (record { name = t.content; rules = rs.rules } ∷ more)
    ]

-- a text: "the preamble is the assignments in order", and its profiles
pub record WrittenFile : Type 0 where
  pub preamble : List Assignment
  pub profiles : List WrittenProfile

unfoldable pub written_of : List ℕ → Reading WrittenFile
written_of s = do
  p ← preamble_at 512 [] s 0
  ps ← profiles_written 32 s p.next
  Read (record { preamble = p.assignments; profiles = ps })

-- what a text means, by its tokens
abbrev pub profile_by : WrittenProfile → Profile
profile_by w = record { name = w.name; rules = map meaning w.rules }

abbrev pub file_by : WrittenFile → File
file_by w = record { preamble = w.preamble; profiles = map profile_by w.profiles }

-- ---- texts that are the same but for their rules

-- an accepted text, and its tokens
pub record AcceptedAs (text : List ℕ) (v : WrittenFile) : Type 0 where
  pub file : File
  pub accepted : Accepted text file
  pub written : written_of text ≡ Read v

-- "each profile holds the same rules, in whatever order and each however often"
pub record SameWritten (vs ws : List Written) : Type 0 where
  pub there : (v : Written) → Memᴰ v vs → (w : Written) × Memᴰ w ws × SameTokens v w
  pub back : (w : Written) → Memᴰ w ws → (v : Written) × Memᴰ v vs × SameTokens v w

-- "deny rules added", "allow rules added": rules with the word deny or without it, wherever; "the others stay in their order"
pub data AddedWritten (deny : Bool) : List Written → List Written → Type 0 where
  none : AddedWritten deny [] []
  kept : {vs ws : List Written} (v w : Written) → SameTokens v w → AddedWritten deny vs ws → AddedWritten deny (v ∷ vs) (w ∷ ws)
  added : {vs ws : List Written} (w : Written) → some (same (bytes "deny")) w.qualifiers ≡ deny → AddedWritten deny vs ws → AddedWritten deny vs (w ∷ ws)

-- "Files are the same but for their rules when preamble and profile names are": as SameButRules says it, by tokens
pub record SameButWritten (R : List Written → List Written → Type 0) (v w : WrittenFile) : Type 0 where
  pub preamble : v.preamble ≡ w.preamble
  pub there : (p : WrittenProfile) → Memᴰ p v.profiles → (q : WrittenProfile) × Memᴰ q w.profiles × (p.name ≡ q.name) × R p.rules q.rules
  pub back : (q : WrittenProfile) → Memᴰ q w.profiles → (p : WrittenProfile) × Memᴰ p v.profiles × (p.name ≡ q.name)
