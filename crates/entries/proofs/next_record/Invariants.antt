use mathlib.Core.Path.{◌≡◌}
use Rattle.entries.specs.Ahead.{rest_from}
use Rattle.entries.proofs.Cursors.{count}
use Rattle.entries.proofs.next_record.Given as goal

abbrev pub invariant-loop-i : goal.invariant-loop-i
invariant-loop-i l = record { all : l.n ≡ count l.text l.head; here : l.cursor.profile ≡ l.i; rest : rest_from l.text l.head l.cursor ≡ rest_from l.text l.head l.initial.cursor }
