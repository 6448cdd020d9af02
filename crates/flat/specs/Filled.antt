-- What reading does to memory.
use Rattle.std.specs.Prelude.{ℕ, ◌+◌, ◌*◌, ◌≡◌, List, [], length, get_or, drop, Result}
use Rattle.entries.specs.Entries.{numbers_in, numbers_of, policy_in, read_of}
use Rattle.entries.specs.Filled.{count_of, told_by, written}
use Rattle.entries.specs.declared.Unread.{Unread}
use Rattle.flat.specs.Layout.{records_in, room_in}

-- "Refused texts leave the table as found; records beyond the count are untouched."
pub record FilledIn (text memory : List ℕ) (r : Result ℕ Unread) (memory' : List ℕ) : Type 0 where
  pub told : told_by r (policy_in text memory' (records_in memory')) ≡ read_of (length memory) (room_in (length memory)) text
  pub counted : written r [] (numbers_in memory') ≡ written r [] (numbers_of (policy_in text memory' (records_in memory')))
  pub count : count_of r ≡ written r 0 (get_or memory' 1250 0)
  pub size : length memory' ≡ length memory
  pub beyond : drop (written r 0 (1256 + 12 * count_of r)) memory' ≡ drop (written r 0 (1256 + 12 * count_of r)) memory
