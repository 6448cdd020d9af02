-- A walk that fills a table with the records of a text, one by one, and that it fills it as reading shall.
use Rattle.std.proofs.Common.{Some, None, Result, Ok, Err}
use Prim.Native.Nat.{ℕ, ◌+◌, ◌≤◌, ◌<◌}
use mathlib.Core.Path.{◌≡◌, refl, sym, ap, ◌∙◌}
use mathlib.Core.List.{List, [], ◌∷◌, ◌++◌, map, map-append, append_assoc, append-nil}
use lib.ListN.{length, get_or, set, take, drop, length-append, length-map, length-set}
use lib.Seq.{length-take-le, take-suc-set}
use native.Mathlib.Numerals.{add-one}
use native.Mathlib.Omega.{arith}
use Rattle.scan.proofs.Laws.{no_length}
use Rattle.entries.specs.Entries.{Entry, Accepted, entry_of, numbers_of, policy_in}
use Rattle.entries.specs.Filled.{Filled, count_of, told_by}
use Rattle.entries.specs.Ahead.{Judged, cursor_at, one_of, policy_ahead, rest_from}
use Rattle.entries.specs.declared.Cursor.{Cursor}
use Rattle.entries.specs.declared.Next.{Next}
use Rattle.entries.specs.declared.Record.{Record}
use Rattle.entries.specs.declared.Unread.{Unread}
use Rattle.entries.specs.declared.Unread.TheVariants.{Short, Refused}

module _ (text head : List ℕ) where
  -- all that is to come from the first profile on
  abbrev pub whole : List Entry
  whole = rest_from text head (cursor_at head 0)

  -- the first i records of the table are the first entries, and the others are to come from the cursor
  pub record Walked (table : List Record) (i : ℕ) (c : Cursor) : Type 0 where
    pub inside : i ≤ length table
    pub so : map (entry_of text) (take i table) ++ rest_from text head c ≡ whole

  pub walked_none : (table : List Record) (c : Cursor) → c ≡ cursor_at head 0 → Walked table 0 c
  walked_none table c e = record { inside = omega arith; so = ap (rest_from text head) e }

  module _ (table : List Record) (i : ℕ) (c : Cursor) (w : Walked table i c) where
    left : length (rest_from text head c) + i ≡ length whole
    left =
        omega
        (arith, ap length w.so, length-append (map (entry_of text) (take i table)) (rest_from text head c), length-map (take i table) (entry_of text), length-take-le i table w.inside)

    -- where none is to come, all are there
    pub none_left : rest_from text head c ≡ one_of text (rest_from text head) None → i ≡ length whole
    none_left e = omega (arith, left, ap length e)

    -- a record more
    pub walked_more : i < length table → (r : Next) → rest_from text head c ≡ one_of text (rest_from text head) (Some r) → Walked (set table i r.«record») (i + 1) r.next
    walked_more k r e =
        let t : Record = r.«record» in
        let first : take (i + 1) (set table i t) ≡ take i table ++ (t ∷ []) = rw add-one (take-suc-set table i t k) in
        let more : map (entry_of text) (take (i + 1) (set table i t)) ≡ map (entry_of text) (take i table) ++ (entry_of text t ∷ []) =
        ap (map (entry_of text)) first ∙ map-append (entry_of text) (take i table) (t ∷ []) in
        record {
          inside = rw length-set (omega arith);
          so =
              ap (λ (l : List Entry). l ++ rest_from text head r.next) more
              ∙ append_assoc (map (entry_of text) (take i table)) (entry_of text t ∷ []) (rest_from text head r.next)
              ∙ ap (λ (l : List Entry). map (entry_of text) (take i table) ++ l) (sym e)
              ∙ w.so;
        }

    -- and no more
    pub walked_all : i ≡ length whole → map (entry_of text) (take i table) ≡ whole
    walked_all e =
        let n : rest_from text head c ≡ [] = no_length (rest_from text head c) (omega (arith, left)) in
        sym (append-nil (map (entry_of text) (take i table))) ∙ ap (λ (l : List Entry). map (entry_of text) (take i table) ++ l) (sym n) ∙ w.so

-- as many are to come as are counted, where the text is accepted
pub ahead : (text head : List ℕ) (rooms n : ℕ) (head' : List ℕ) → Judged text head rooms (Ok n) head' → n ≡ length (whole text head')
unfolding policy_ahead
ahead text head rooms n head' j = j.count ∙ ap (λ (l : List ℕ). get_or l 2 0) j.counted

-- a text that is not accepted leaves the table as it is
pub filled-not : (text head : List ℕ) (table : List Record) (e : Unread) (head' : List ℕ) → Judged text head (length table) (Err e) head' → Filled text head table (Err e) head' table
unfolding told_by
filled-not text head table e head' j =
    record { told = go e ∙ j.told; counted = refl; count = refl; beyond = refl; records = refl; stays = j.stays }
  where
    go : (e : Unread) → told_by (Err e) (policy_in text head' table) ≡ told_by (Err e) (policy_ahead text head')
    go Short = refl
    go (Refused r) = refl

module _ (text head : List ℕ) (table : List Record) (n : ℕ) (head' : List ℕ) (j : Judged text head (length table) (Ok n) head') where
  -- as many are to come as are counted
  pub counted-ahead : (i : ℕ) → i < n → i < length (whole text head')
  counted-ahead i h = omega (arith, ahead text head (length table) n head' j)

  -- after as many steps as are counted the table is filled
  filled-accepted : (table' : List Record) (c : Cursor) → Walked text head' table' n c → drop n table' ≡ drop n table →
      length table' ≡ length table → Filled text head table (Ok n) head' table'
  unfolding policy_in policy_ahead told_by
  filled-accepted table' c w d l =
      record {
        told = ap Accepted same ∙ j.told;
        counted = j.counted ∙ ap numbers_of (sym same);
        count = j.count;
        beyond = d;
        records = l;
        stays = j.stays;
      }
    where
      same : policy_in text head' table' ≡ policy_ahead text head'
      same =
          let m : n ≡ length (whole text head') = ahead text head (length table) n head' j in
          rw (← j.count, walked_all text head' table' n c w m)

-- the same of every text, accepted or not
pub filled : (text head : List ℕ) (table : List Record) (r : Result ℕ Unread) (head' : List ℕ) → Judged text head (length table) r head' →
    (table' : List Record) (c : Cursor) → Walked text head' table' (count_of r) c → drop (count_of r) table' ≡ drop (count_of r) table →
    length table' ≡ length table → Filled text head table r head' table'
filled text head table (Ok n) head' j table' c w d l = filled-accepted text head table n head' j table' c w d l
filled text head table (Err e) head' j table' c w d l = rw d (filled-not text head table e head' j)
