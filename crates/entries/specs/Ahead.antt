-- What is still to come of the rules that a head tells, as the code reads them one by one; and what judging a text does to a head.
use Rattle.std.specs.Prelude.{ℕ, ◌+◌, ◌*◌, ◌-◌, ◌≤◌, min, ◌≡◌, List, [], ◌∷◌, ◌++◌, map, length, get_or, drop, ltb, if◌then◌else◌, Option, Some, None, Result, Err, IfSome}
use Rattle.text.specs.Places.{place}
use Rattle.text.specs.declared.Refusal.{Refusal}
use Rattle.pattern.specs.Table.{env}
use Rattle.statement.specs.Steps.{rules_from}
use Rattle.profile.specs.Places.{profiles_again}
use Rattle.entries.specs.Entries.{Entry, Policy, entry, entries_from, entry_of, names_from, numbers_in, numbers_of, read_of}
use Rattle.entries.specs.Filled.{count_of, told_by, written}
use Rattle.entries.specs.declared.Cursor.{Cursor}
use Rattle.entries.specs.declared.Next.{Next}
use Rattle.entries.specs.declared.Unread.{Unread}
use Rattle.entries.specs.declared.Unread.TheVariants.{Refused}

-- ---- a cursor

-- at the first rule of profile i
abbrev pub cursor_at : (head : List ℕ) → ℕ → Cursor
cursor_at head i = record { profile = i; left = get_or head (1120 + 4 * i + 3) 0; at = place (get_or head (1120 + 4 * i + 2) 0) }

-- the rules that are left of its profile; patterns are not judged again
abbrev pub left_of : (text : List ℕ) → Cursor → List Entry
left_of text c = map (entry c.profile) (rules_from c.left (λ _. 0) text c.at.0)

-- these, and the rules of the profiles behind it
unfoldable pub rest_from : (text head : List ℕ) → Cursor → List Entry
rest_from text head c =
    let n : ℕ = min 32 (get_or head 1249 0) in
    let i : ℕ = c.profile + 1 in
    if ltb c.profile n then left_of text c ++ entries_from i (profiles_again text (drop 1120 head) (n - i) i) else []

-- the first entry of some and the rest of them, as the code tells it; or none
abbrev pub one_of : (text : List ℕ) → (rest : Cursor → List Entry) → Option Next → List Entry
one_of text rest (Some r) = entry_of text r.record ∷ rest r.next
one_of text rest None = []

-- the next rule of a cursor's profile
pub record Left (text : List ℕ) (c : Cursor) (r : Option Next) : Type 0 where
  pub one : left_of text c ≡ one_of text (left_of text) r
  pub same : IfSome r (λ n. n.next.profile ≡ c.profile)

-- ---- judging

-- what a head tells, with the rules that are to come from the first profile on
unfoldable pub policy_ahead : (text head : List ℕ) → Policy
policy_ahead text head =
    record {
      variables = env text head (get_or head 1248 0);
      names = names_from text (drop 1120 head) (min 32 (get_or head 1249 0)) 0;
      entries = rest_from text head (cursor_at head 0);
    }

-- what is told of a text that is refused
abbrev pub refused_reading : Refusal → Result ℕ Unread
refused_reading r = Err (Refused r)

-- the tables of variables and profiles and three counts, one behind the other at the start of a head
pub record Laid (head vars profiles counts head' : List ℕ) : Type 0 where
  pub variables : length vars ≡ 1120
  pub names : length profiles ≡ 128
  pub all : head' ≡ vars ++ profiles ++ counts ++ drop 1251 head

-- a text that is not accepted leaves the head as it was; of one that is, the head tells all, and its first 1251 numbers are written
pub record Judged (text head : List ℕ) (rooms : ℕ) (r : Result ℕ Unread) (head' : List ℕ) : Type 0 where
  pub told : told_by r (policy_ahead text head') ≡ read_of (length head) rooms text
  pub counted : written r [] (numbers_in head') ≡ written r [] (numbers_of (policy_ahead text head'))
  pub count : count_of r ≡ written r 0 (get_or head' 1250 0)
  pub fits : count_of r ≤ rooms
  pub stays : drop (written r 0 1251) head' ≡ drop (written r 0 1251) head
