-- A table that is being filled: what stands before place i was read, and what stands from it on is as it was.
-- Assumes nothing.
use Rattle.std.proofs.Common.{Some, None, Ok}
use mathlib.Core.Path.{◌≡◌, refl, sym, ◌∙◌, ap, subst}
use Prim.Native.Nat.{ℕ, ◌+◌, ◌<◌}
use native.Mathlib.Omega.{arith}
use mathlib.Core.List.{List}
use lib.ListN.{length, set, drop, length-set}
use lib.Seq.{drop-drop, drop-set-lt}
use Rattle.entries.specs.Filled.{Filled}
use Rattle.entries.specs.Ahead.{Judged, cursor_at, one_of, rest_from}
use Rattle.entries.proofs.Walks.{Walked, counted-ahead, filled, none_left, walked_more, walked_none}
use Rattle.entries.specs.declared.Record.{Record}
use Rattle.entries.specs.declared.Cursor.{Cursor}
use Rattle.entries.specs.declared.Next.{Next}

pub record Filling (s h : List ℕ) (ys : List Record) (i : ℕ) (c : Cursor) (es : List Record) : Type 0 where
  pub walked : Walked s h es i c
  pub records : length es ≡ length ys
  pub behind : drop i es ≡ drop i ys

pub filling-none : (s h : List ℕ) (ys : List Record) (c : Cursor) → c ≡ cursor_at h 0 → Filling s h ys 0 c ys
filling-none s h ys c e = record { walked = walked_none s h ys c e; records = refl; behind = refl }

module _ (s h : List ℕ) (ys : List Record) (n : ℕ) (h' : List ℕ) (j : Judged s h (length ys) (Ok n) h') (i : ℕ) (c : Cursor) (es : List Record) (f : Filling s h' ys i c es) where
  -- a record more
  pub filling-more : i < length es → (v : Next) → rest_from s h' c ≡ one_of s (rest_from s h') (Some v) → Filling s h' ys (i + 1) v.next (set es i v.record)
  filling-more k v e =
      record {
        walked = walked_more s h' es i c f.walked k v e;
        records = length-set es i v.record ∙ f.records;
        behind =
            drop-set-lt (i + 1) es i v.record (omega arith) ∙ sym (drop-drop 1 i es) ∙ ap (drop 1) f.behind ∙ drop-drop 1 i ys;
      }

  -- there is one, where not all are there yet
  pub filling-one : i < n → rest_from s h' c ≡ one_of s (rest_from s h') None → ⊥
  filling-one l e = omega (arith, counted-ahead s h ys n h' j i l, none_left s h' es i c f.walked e)

  -- after as many as are counted
  pub filling-all : i ≡ n → Filled s h ys (Ok n) h' es
  filling-all e =
      filled s h ys (Ok n) h' j es c (subst (λ (k : ℕ). Walked s h' es k c) e f.walked) (subst (λ (k : ℕ). drop k es ≡ drop k ys) e f.behind) f.records
