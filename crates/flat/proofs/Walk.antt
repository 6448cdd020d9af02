-- Asking record by record from memory: what is still to come from a place on makes the whole answer.
use Rattle.std.specs.Prelude.{if◌then◌else◌}
use Prim.Native.Nat.{ℕ, zero, suc, ◌+◌, ◌*◌, ◌-◌, ◌≤◌, ◌<◌, min}
use mathlib.Core.Path.{◌≡◌, refl, sym, ap, ap₂, ◌∙◌}
use mathlib.Core.List.{List, [], ◌∷◌, map}
use mathlib.Core.Bool.{Bool, true, false}
use native.Mathlib.Omega.{arith}
use lib.ListN.{length, get_or, take, drop}
use lib.Dec.{eqb}
use Rattle.perms.specs.declared.Perms.{Perms}
use Rattle.codes.proofs.Laws.{take-least}
use Rattle.pattern.specs.Expansions.{Variable}
use Rattle.pattern.specs.Table.{env}
use Rattle.words.specs.Words.{words_of}
use Rattle.words.specs.declared.Words.{Words}
use Rattle.findings.specs.Findings.{Access}
use Rattle.findings.specs.Weighed.{Weighed, nothing}
use Rattle.glob.specs.Glob.{no_match}
use Rattle.glob.specs.declared.Matched.{Matched}
use Rattle.entries.specs.Entries.{Entry, entry_of, names_from, policy_in}
use Rattle.entries.specs.declared.Record.{Record}
use Rattle.asking.specs.Asking.{asked_of, first_match, match_at, match_of}
use Rattle.asking.specs.Steps.{concluded, gathered_in, number_from, out_of, query_by, query_of, refused_for, refused_query, weighed_entry}
use Rattle.asking.specs.declared.Query.{Query}
use Rattle.asking.proofs.Laws.{walked, asking-walked}
use Rattle.flat.specs.Layout.{record_at, records_from, records_in, room_in}

-- ---- the records of memory

pub records-length : (k : ℕ) (m : List ℕ) (at : ℕ) → length (records_from k m at) ≡ k
unfolding records_from
records-length zero m at = refl
records-length (suc k) m at = ap suc (records-length k m (at + 12))

-- the first of them
pub records-take : (n k : ℕ) (m : List ℕ) (at : ℕ) → n ≤ k → take n (records_from k m at) ≡ records_from n m at
unfolding records_from
records-take zero k m at h = refl
records-take (suc n) zero m at h = absurd (omega arith)
records-take (suc n) (suc k) m at h = ap (λ (l : List Record). record_at m at ∷ l) (records-take n k m (at + 12) (omega arith))

-- record i stands whole in memory that has room for it
pub records-room : (size n i : ℕ) → n ≤ room_in size → i < n → 1256 + 12 * i + 12 ≤ size
records-room size n i h g = omega arith

-- ---- the walk

module _ (text : List ℕ) (vs : List Variable) (q : Access) (words : Words) (p : ℕ) (m : List ℕ) where
  -- what records i to before n make of what is gathered so far
  unfoldable pub onwards : (n i : ℕ) → Weighed → Weighed
  onwards n i w = gathered_in text vs q words p (map (entry_of text) (records_from (n - i) m (1256 + 12 * i))) w

  pub onwards-first : (n : ℕ) (w : Weighed) → onwards n 0 w ≡ gathered_in text vs q words p (map (entry_of text) (records_from n m 1256)) w
  unfolding onwards
  onwards-first n w = let e : n - 0 ≡ n = omega arith in rw e

  pub onwards-end : (n : ℕ) (w : Weighed) → onwards n n w ≡ w
  unfolding onwards gathered_in records_from
  onwards-end n w = let e : n - n ≡ 0 = omega arith in rw e

  -- one record more
  pub onwards-next : (n i : ℕ) (w : Weighed) → i < n →
      onwards n i w
      ≡ onwards n (i + 1) (if out_of words p (entry_of text (record_at m (1256 + 12 * i))) then w else weighed_entry text vs q (entry_of text (record_at m (1256 + 12 * i))) w)
  unfolding onwards gathered_in records_from
  onwards-next n i w h =
      let e : n - i ≡ suc (n - (i + 1)) = omega arith in
      let f : 1256 + 12 * i + 12 ≡ 1256 + 12 * (i + 1) = omega arith in
      rw (e, f)

  pub onwards-out : (n i : ℕ) (w : Weighed) → i < n → out_of words p (entry_of text (record_at m (1256 + 12 * i))) ≡ true → onwards n (i + 1) w ≡ onwards n i w
  onwards-out n i w h e = sym (onwards-next n i w h ∙ rw e)

  pub onwards-in : (n i : ℕ) (w w' : Weighed) → i < n → out_of words p (entry_of text (record_at m (1256 + 12 * i))) ≡ false →
      w' ≡ weighed_entry text vs q (entry_of text (record_at m (1256 + 12 * i))) w → onwards n (i + 1) w' ≡ onwards n i w
  onwards-in n i w w' h e g = ap (onwards n (i + 1)) g ∙ sym (onwards-next n i w h ∙ rw e)

-- ---- what is known before the walk

module _ (text head : List ℕ) (records : ℕ) (n path : List ℕ) (asked : Perms) (owner : Bool) where
  -- the words and the owner mark are those of the request, and there are no more records to walk than these
  pub record Known (k : Query) : Type 0 where
    pub words : k.words ≡ words_of path
    pub owned : k.owner ≡ owner
    pub count : k.count ≤ records

  by-known : (j : ℕ) → Known (query_by j head records path asked owner)
  by-known zero = record { words = refl; owned = refl; count = omega arith }
  by-known (suc j) = record { words = refl; owned = refl; count = omega arith }

  pub query-known : Known (query_of text head records n path asked owner)
  unfolding query_of
  query-known = go (eqb (refused_for text path asked.0) 0)
    where
      go : (b : Bool) → Known (if b then query_by (number_from n 0 (names_from text (drop 1120 head) (min 32 (get_or head 1249 0)) 0)) head records path asked owner
          else refused_query (refused_for text path asked.0) path asked owner)
      go true = by-known (number_from n 0 (names_from text (drop 1120 head) (min 32 (get_or head 1249 0)) 0))
      go false = record { words = refl; owned = refl; count = omega arith }

-- a record of the walk stands whole in memory
pub query-room : (text m n path : List ℕ) (asked : Perms) (owner : Bool) (k : Query) (records : ℕ) →
    k ≡ query_of text m records n path asked owner → records ≡ room_in (length m) → (i : ℕ) → i < k.count → 1256 + 12 * i + 12 ≤ length m
query-room text m n path asked owner k records e f i h =
    let known : Known text m records n path asked owner k = rw e (query-known text m records n path asked owner) in
    records-room (length m) k.count i (rw f at known.count) h

-- ---- the answer

abbrev gathered : (text m path : List ℕ) (k : Query) (q : Access) (words : Words) → Weighed
gathered text m path k q words = gathered_in text (env text m k.variables) q words k.profile (map (entry_of text) (records_from k.count m 1256)) nothing

pub flat-asked : (text m n path : List ℕ) (asked : Perms) (owner : Bool) (k : Query) (w : Weighed) →
    k ≡ query_of text m (room_in (length m)) n path asked owner →
    w ≡ gathered text m path k (record { path = path; owner = k.owner }) k.words →
    concluded k w ≡ asked_of text (policy_in text m (records_in m)) n path asked.0 owner
unfolding walked
flat-asked text m n path asked owner k w e f =
    let size : length (records_in m) ≡ room_in (length m) = records-length (room_in (length m)) m 1256 in
    let known : Known text m (room_in (length m)) n path asked owner k = rw e (query-known text m (room_in (length m)) n path asked owner) in
    ap (concluded k) (f
    ∙ ap₂ (λ (o : Bool) (v : Words). gathered text m path k (record { path = path; owner = o }) v) known.owned known.words
    ∙ ap (λ (l : List Record). gathered_in text (env text m k.variables) (record { path = path; owner = owner }) (words_of path) k.profile (map (entry_of text) l) nothing)
    (sym (records-take k.count (room_in (length m)) m 1256 known.count)))
    ∙ ap (walked text m (records_in m) n path asked owner) (e ∙ ap (λ (j : ℕ). query_of text m j n path asked owner) (sym size))
    ∙ asking-walked text m (records_in m) n path asked owner

-- ---- one record

module _ (text m n path : List ℕ) (owner : Bool) where
  abbrev one : Record → Matched
  one r = match_of text (policy_in text m []) n path owner (entry_of text r)

  abbrev first : List Entry → Matched
  first = first_match text (policy_in text m (records_in m)) n path owner

  -- of all records only this one is asked
  first_one : (r : Record) → match_of text (policy_in text m (records_in m)) n path owner (entry_of text r) ≡ one r
  unfolding match_of policy_in
  first_one r = refl

  first-at : (j k at : ℕ) → k < j → first (drop k (map (entry_of text) (records_from j m at))) ≡ one (record_at m (at + 12 * k))
  unfolding records_from
  first-at zero k at h = absurd (omega arith)
  first-at (suc j) zero at h = first_one (record_at m at) ∙ (let e : at ≡ at + 12 * 0 = omega arith in ap (λ (i : ℕ). one (record_at m i)) e)
  first-at (suc j) (suc k) at h = first-at j k (at + 12) (omega arith) ∙ (let e : at + 12 + 12 * k ≡ at + 12 * suc k = omega arith in ap (λ (i : ℕ). one (record_at m i)) e)

  first-none : (j k at : ℕ) → j ≤ k → first (drop k (map (entry_of text) (records_from j m at))) ≡ no_match
  unfolding records_from
  first-none zero zero at h = refl
  first-none zero (suc k) at h = refl
  first-none (suc j) zero at h = absurd (omega arith)
  first-none (suc j) (suc k) at h = first-none j k (at + 12) (omega arith)

  module _ (k : ℕ) {count : ℕ} (c : count ≡ min (room_in (length m)) (get_or m 1250 0)) where
    walked-records : take (get_or m 1250 0) (records_in m) ≡ records_from count m 1256
    walked-records =
        let size : length (records_in m) ≡ room_in (length m) = records-length (room_in (length m)) m 1256 in
        take-least (get_or m 1250 0) count (records_in m) (omega arith) ∙ records-take count (room_in (length m)) m 1256 (omega arith)

    match-first : first (drop k (map (entry_of text) (records_from count m 1256))) ≡ match_at text (policy_in text m (records_in m)) n path owner k
    unfolding policy_in
    match-first = ap (λ (l : List Record). first_match text (policy_in text m (records_in m)) n path owner (drop k (map (entry_of text) l))) (sym walked-records)

    pub match-here : {r : Record} → k < count → r ≡ record_at m (1256 + 12 * k) → one r ≡ match_at text (policy_in text m (records_in m)) n path owner k
    match-here h e = ap one e ∙ sym (first-at count k 1256 h) ∙ match-first

    pub match-nowhere : count ≤ k → no_match ≡ match_at text (policy_in text m (records_in m)) n path owner k
    match-nowhere h = sym (first-none count k 1256 h) ∙ match-first
