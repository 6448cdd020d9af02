-- Asking with the head and the table, or the memory, that reading filled.
use Rattle.std.proofs.Common.{Ok}
use Prim.Native.Nat.{ℕ}
use mathlib.Core.Path.{◌≡◌, refl, sym, ◌∙◌}
use mathlib.Core.List.{List}
use mathlib.Core.Bool.{Bool}
use lib.ListN.{length}
use Rattle.decide.specs.Decide.{answer_of}
use Rattle.entries.specs.Entries.{Accepted, Policy, policy_in}
use Rattle.entries.specs.Filled.{Filled, told_by}
use Rattle.entries.specs.declared.Record.{Record}
use Rattle.flat.specs.Layout.{records_in, room_in}
use Rattle.flat.specs.Filled.{FilledIn}
use Rattle.asking.specs.Asking.{asked_of}
use Rattle.agreement.proofs.Agreement.{read-answers}

module _ (n : ℕ) where
  accepted : (p : Policy) → told_by (Ok n) p ≡ Accepted p
  unfolding told_by
  accepted p = refl

  -- "Equality with the old answer is wanted for the filling text"
  pub filled-answers : (text head : List ℕ) (table : List Record) (head' : List ℕ) (table' : List Record) → Filled text head table (Ok n) head' table' →
      (name path : List ℕ) (asked : ℕ) (owner : Bool) → asked_of text (policy_in text head' table') name path asked owner ≡ answer_of text name path asked owner
  filled-answers text head table head' table' filled =
      read-answers (length head) (length table) text (policy_in text head' table') (sym filled.told ∙ accepted (policy_in text head' table'))

  -- the same of memory
  pub memory-answers : (text memory memory' : List ℕ) → FilledIn text memory (Ok n) memory' →
      (name path : List ℕ) (asked : ℕ) (owner : Bool) → asked_of text (policy_in text memory' (records_in memory')) name path asked owner ≡ answer_of text name path asked owner
  memory-answers text memory memory' filled =
      read-answers (length memory) (room_in (length memory)) text (policy_in text memory' (records_in memory'))
      (sym filled.told ∙ accepted (policy_in text memory' (records_in memory')))
