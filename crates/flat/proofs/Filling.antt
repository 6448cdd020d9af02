-- Reading writes one record after the other: what is written and what is still to come is the whole.
use Rattle.std.proofs.Common.{Option, Some, None, Ok, Err}
use Prim.Native.Nat.{ℕ, suc, ◌+◌, ◌*◌, ◌≤◌, ◌<◌, min}
use mathlib.Core.Path.{◌≡◌, refl, sym, ap, ap₂, ◌∙◌}
use mathlib.Core.List.{List, [], ◌∷◌, ◌++◌, map, map-append, append_assoc, append-nil}
use native.Mathlib.Omega.{arith}
use lib.ListN.{length, get_or, take, drop, length-append, length-map}
use lib.Seq.{paste, length-paste, drop-paste, drop-drop}
use Rattle.scan.proofs.Laws.{no_length}
use Rattle.pattern.specs.Expansions.{Variable}
use Rattle.pattern.specs.Table.{env}
use Rattle.entries.specs.Entries.{Entry, Accepted, entry_of, names_from, numbers_of, policy_in, read_of}
use Rattle.entries.specs.Filled.{told_by}
use Rattle.entries.specs.Ahead.{Judged, cursor_at, one_of, policy_ahead, rest_from}
use Rattle.entries.proofs.Laws.{three}
use Rattle.entries.proofs.Walks.{ahead}
use Rattle.entries.specs.declared.Cursor.{Cursor}
use Rattle.entries.specs.declared.Next.{Next}
use Rattle.entries.specs.declared.Unread.{Unread}
use Rattle.entries.specs.declared.Unread.TheVariants.{Short, Refused}
use Rattle.entries.specs.declared.Record.{Record}
use Rattle.flat.specs.Layout.{encoded, record_at, records_from, records_in, room_in}
use Rattle.flat.specs.Filled.{FilledIn}
use Rattle.flat.proofs.Head.{Agree, env-agree, names-agree, rest-agree}
use Rattle.flat.proofs.Round.{paste-before, records-same, records-snoc}
use Rattle.flat.proofs.Walk.{records-length, records-take}

-- ---- the walk

-- memory after i records of what was judged, and the cursor there
pub record Filling (text judged : List ℕ) (i : ℕ) (at : Cursor) (m : List ℕ) : Type 0 where
  pub size : length m ≡ length judged
  pub agree : Agree m judged
  pub tail : drop (1256 + 12 * i) m ≡ drop (1256 + 12 * i) judged
  pub done : map (entry_of text) (records_from i m 1256) ++ rest_from text judged at ≡ rest_from text judged (cursor_at judged 0)

pub filling-start : (text judged : List ℕ) → Filling text judged 0 (cursor_at judged 0) judged
unfolding records_from
filling-start text judged = record { size = refl; agree = λ k h. refl; tail = refl; done = refl }

module _ (text judged m : List ℕ) (i : ℕ) (at : Cursor) (f : Filling text judged i at m) where
  abbrev before : List Entry
  before = map (entry_of text) (records_from i m 1256)

  to-come : (one : Option Next) → rest_from text m at ≡ one_of text (rest_from text m) one → rest_from text judged at ≡ one_of text (rest_from text judged) one
  to-come one next = sym (rest-agree text m judged f.agree at) ∙ next ∙ same one
    where
      same : (o : Option Next) → one_of text (rest_from text m) o ≡ one_of text (rest_from text judged) o
      same (Some r) = ap (λ (l : List Entry). entry_of text r.record ∷ l) (rest-agree text m judged f.agree r.next)
      same None = refl

  -- where none is to come, all are there
  pub none_left : rest_from text m at ≡ one_of text (rest_from text m) None → length (rest_from text judged (cursor_at judged 0)) ≡ i
  none_left next =
      sym (ap length f.done)
      ∙ ap (λ (x : List Entry). length (before ++ x)) (to-come None next)
      ∙ ap length (append-nil before)
      ∙ length-map (records_from i m 1256) (entry_of text)
      ∙ records-length i m 1256

  module _ (m' : List ℕ) (one : Next) (fits : 1256 + 12 * i + 12 ≤ length judged) (next : rest_from text m at ≡ one_of text (rest_from text m) (Some one))
      (pasted : m' ≡ paste m (1256 + 12 * i) (encoded one.record) 12) (back : record_at m' (1256 + 12 * i) ≡ one.record) where
    abbrev here : ℕ
    here = 1256 + 12 * i

    long : 12 ≤ length (encoded one.record)
    long = unfold encoded in omega arith

    room : here + 12 ≤ length m
    room = omega (arith, f.size)

    kept : (k : ℕ) → k < here → get_or m' k 0 ≡ get_or m k 0
    kept k h = rw pasted (paste-before m (encoded one.record) here 12 k (omega (arith, room)) long h)

    records-more : records_from (i + 1) m' 1256 ≡ records_from i m 1256 ++ one.record ∷ []
    records-more =
        let e : i + 1 ≡ suc i = omega arith in
        ap (λ (k : ℕ). records_from k m' 1256) e
        ∙ records-snoc i m' 1256
        ∙ ap₂ (λ (l : List Record) (r : Record). l ++ r ∷ []) (records-same i m' m 1256 kept) back

    -- a record more
    pub filling-next : Filling text judged (i + 1) one.next m'
    filling-next =
        let e : 1256 + 12 * (i + 1) ≡ here + 12 = omega arith in
        record {
          size = ap length pasted ∙ length-paste m here (encoded one.record) 12 room long ∙ f.size;
          agree = λ k h. kept k (omega arith) ∙ f.agree k h;
          tail =
              ap (λ (k : ℕ). drop k m') e
              ∙ ap (drop (here + 12)) pasted
              ∙ drop-paste m here (encoded one.record) 12 (omega (arith, room)) long
              ∙ sym (drop-drop 12 here m)
              ∙ ap (drop 12) f.tail
              ∙ drop-drop 12 here judged
              ∙ ap (λ (k : ℕ). drop k judged) (sym e);
          done =
              ap (λ (l : List Record). map (entry_of text) l ++ rest_from text judged one.next) records-more
              ∙ ap (λ (l : List Entry). l ++ rest_from text judged one.next) (map-append (entry_of text) (records_from i m 1256) (one.record ∷ []))
              ∙ append_assoc before (entry_of text one.record ∷ []) (rest_from text judged one.next)
              ∙ ap (λ (l : List Entry). before ++ l) (sym (to-come (Some one) next))
              ∙ f.done;
        }

-- there is one, where not all are there yet
pub filling-one : (text memory judged m : List ℕ) (rooms n i : ℕ) (at : Cursor) → Judged text memory rooms (Ok n) judged → Filling text judged i at m → i < n →
    rest_from text m at ≡ one_of text (rest_from text m) None → ⊥
filling-one text memory judged m rooms n i at j f h e = omega (arith, ahead text memory rooms n judged j, none_left text judged m i at f e)

-- ---- the end

-- a text that is not accepted leaves memory as it is
pub filled-not : (text memory m : List ℕ) (rooms : ℕ) (e : Unread) → Judged text memory rooms (Err e) m → rooms ≡ room_in (length memory) → FilledIn text memory (Err e) m
unfolding told_by
filled-not text memory m rooms e j room =
    record {
      told = go e ∙ j.told ∙ ap (λ (k : ℕ). read_of (length memory) k text) room;
      counted = refl;
      count = refl;
      size = ap length j.stays;
      beyond = j.stays;
    }
  where
    go : (e : Unread) → told_by (Err e) (policy_in text m (records_in m)) ≡ told_by (Err e) (policy_ahead text m)
    go Short = refl
    go (Refused r) = refl

module _ (text memory judged m : List ℕ) (rooms n : ℕ) (at : Cursor) (j : Judged text memory rooms (Ok n) judged)
    (f : Filling text judged n at m) (room : rooms ≡ room_in (length memory)) (same_size : length judged ≡ length memory) where
  abbrev whole : List Entry
  whole = rest_from text judged (cursor_at judged 0)

  same_count : get_or m 1250 0 ≡ n
  same_count = f.agree 1250 (omega arith) ∙ sym j.count

  all_done : map (entry_of text) (records_from n m 1256) ≡ whole
  all_done =
      let k : n ≡ length whole = ahead text memory rooms n judged j in
      let filled : List Entry = map (entry_of text) (records_from n m 1256) in
      let l : length filled ≡ n = length-map (records_from n m 1256) (entry_of text) ∙ records-length n m 1256 in
      let z : rest_from text judged at ≡ [] = no_length (rest_from text judged at) (omega (arith, l, k, length-append filled (rest_from text judged at), ap length f.done)) in
      sym (append-nil filled) ∙ ap (λ (x : List Entry). filled ++ x) (sym z) ∙ f.done

  entries-filled : map (entry_of text) (take (get_or m 1250 0) (records_in m)) ≡ whole
  entries-filled =
      let s : length m ≡ length memory = f.size ∙ same_size in
      let k : n ≤ room_in (length m) = rw s (rw room at j.fits) in
      ap (λ (l : List Record). map (entry_of text) l) (ap (λ (x : ℕ). take x (records_in m)) same_count ∙ records-take n (room_in (length m)) m 1256 k) ∙ all_done

  policy-filled : policy_in text m (records_in m) ≡ policy_ahead text judged
  unfolding policy_in policy_ahead
  policy-filled =
      ap₂ (λ (v : List Variable) (x : List Entry). record { variables = v; names = names_from text (drop 1120 m) (min 32 (get_or m 1249 0)) 0; entries = x })
      (env-agree text m judged f.agree) entries-filled
      ∙ ap (λ (x : List (List ℕ)). record { variables = env text judged (get_or judged 1248 0); names = x; entries = whole }) (names-agree text m judged f.agree)

  beyond-filled : drop (1256 + 12 * n) m ≡ drop (1256 + 12 * n) memory
  beyond-filled =
      let k : 1251 + (5 + 12 * n) ≡ 1256 + 12 * n = omega arith in
      f.tail
      ∙ ap (λ (x : ℕ). drop x judged) (sym k)
      ∙ sym (drop-drop (5 + 12 * n) 1251 judged)
      ∙ ap (drop (5 + 12 * n)) j.stays
      ∙ drop-drop (5 + 12 * n) 1251 memory
      ∙ ap (λ (x : ℕ). drop x memory) k

  pub filling-end : FilledIn text memory (Ok n) m
  unfolding told_by
  filling-end =
      record {
        told = ap Accepted policy-filled ∙ j.told ∙ ap (λ (k : ℕ). read_of (length memory) k text) room;
        counted = three (f.agree 1248 (omega arith)) (f.agree 1249 (omega arith)) (f.agree 1250 (omega arith)) ∙ j.counted ∙ ap numbers_of (sym policy-filled);
        count = sym same_count;
        size = f.size ∙ same_size;
        beyond = beyond-filled;
      }
