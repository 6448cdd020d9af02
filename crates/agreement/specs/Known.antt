-- What is known of a text that was read.
use Rattle.std.specs.Prelude.{ℕ, ◌≡◌, List}
use Rattle.entries.specs.Entries.{Policy, Accepted, read_of}

-- reading it filled a head and a table of some lengths, which tell this policy
pub record Known (text : List ℕ) (p : Policy) : Type 0 where
  pub head : ℕ
  pub rooms : ℕ
  pub told : read_of head rooms text ≡ Accepted p
