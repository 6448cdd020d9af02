use Prim.Native.Nat.{◌+◌, ◌≤◌}
use mathlib.Core.Path.{◌≡◌}
use Rattle.text.specs.Reading.{line_of, column_of}
use Rattle.text.proofs.refusal_at.Given as goal

abbrev pub invariant-loop-b : goal.invariant-loop-b
invariant-loop-b l = record {
  line_fits : l.line ≤ l.b-index + 1;
  column_fits : l.column ≤ l.b-index + 1;
  line_so_far : l.line ≡ line_of l.before l.b-index;
  column_so_far : l.column ≡ column_of l.before l.b-index;
}
