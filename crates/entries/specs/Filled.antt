-- What reading does to a head and a table.
use Rattle.std.specs.Prelude.{ℕ, ◌≡◌, List, [], length, get_or, drop, Result, Ok, Err}
use Rattle.entries.specs.Entries.{Policy, Told, Short, Rejected, Accepted, numbers_in, numbers_of, policy_in, read_of}
use Rattle.entries.specs.declared.Record.{Record}
use Rattle.entries.specs.declared.Unread.{Unread}
use Rattle.entries.specs.declared.Unread.TheVariants as unread

-- as the code tells it, with what is known where the text is accepted
unfoldable pub told_by : Result ℕ Unread → Policy → Told
told_by (Ok n) p = Accepted p
told_by (Err unread.Short) p = Short
told_by (Err (unread.Refused r)) p = Rejected r

-- what is written: nothing where the text is not accepted
abbrev pub written : {A : Type 0} → Result ℕ Unread → (none all : A) → A
written (Ok n) none all = all
written (Err e) none all = none

-- how many records are filled
abbrev pub count_of : Result ℕ Unread → ℕ
count_of (Ok n) = n
count_of (Err e) = 0

-- "Refused texts leave the table as found; records beyond the count are untouched."
pub record Filled (text head : List ℕ) (table : List Record) (r : Result ℕ Unread) (head' : List ℕ) (table' : List Record) : Type 0 where
  pub told : told_by r (policy_in text head' table') ≡ read_of (length head) (length table) text
  pub counted : written r [] (numbers_in head') ≡ written r [] (numbers_of (policy_in text head' table'))
  pub count : count_of r ≡ written r 0 (get_or head' 1250 0)
  pub beyond : drop (count_of r) table' ≡ drop (count_of r) table
  pub records : length table' ≡ length table
  pub stays : drop (written r 0 1251) head' ≡ drop (written r 0 1251) head
