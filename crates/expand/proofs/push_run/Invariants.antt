use Prim.Native.Nat.{ℕ}
use mathlib.Core.List.{List, map}
use lib.ListN.{drop}
use Rattle.pattern.specs.Pieces.{Byte}
use Rattle.expand.proofs.Laws.{Writing}
use Rattle.expand.proofs.push_run.Given as goal

abbrev pub invariant-loop-b : goal.invariant-loop-b
invariant-loop-b l = (text : List ℕ) → Writing text l.initial.out l.m l.out l.w (map Byte (drop l.b-index l.s)) (map Byte l.s)
