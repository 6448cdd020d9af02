-- What stands past the end of a table.
-- Assumes nothing.
use Rattle.std.proofs.Common.{None}
use mathlib.Core.Bool.{false}
use Rattle.entries.specs.declared.Record.{Record}

abbrev pub no_record : Record
no_record =
    record {
      rule = record { profile = 0; audit = false; deny = false; owner = false; perms = record { 0 = 0 }; transition = None; pattern = record { from = record { 0 = 0 }; end = record { 0 = 0 } }; target = record { from = record { 0 = 0 }; end = record { 0 = 0 } } };
      front = record { first = 0; second = 0; first_mask = 0; second_mask = 0 };
    }
