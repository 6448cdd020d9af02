-- The ranges of a class as the code gives them.
use Rattle.std.specs.Prelude.{ℕ, List}
use Rattle.class.specs.Class.{Range, ranges}
use Rattle.class.specs.declared.Ranges.{Ranges}

-- a range by its two ends
abbrev pub range : ℕ × ℕ → Range
range ends = record { low = ends.0; high = ends.1 }

-- the ranges that are still to come
abbrev pub left : Ranges → List Range
left it = ranges 0 it.left.now
