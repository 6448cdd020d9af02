-- The lists behind the walks: how many records count, what one record more makes of the findings, and that what the walk ends with is the answer.
-- Assumes nothing.
use Rattle.std.specs.Prelude.{if◌then◌else◌}
use mathlib.Core.Path.{◌≡◌, refl, sym, ◌∙◌, ap, subst}
use Prim.Native.Nat.{ℕ, zero, suc, ◌+◌, ◌<◌, ◌≤◌, min}
use native.Mathlib.Omega.{arith}
use native.Mathlib.Nat.{min-le_left}
use native.Mathlib.Numerals.{add-one}
use mathlib.Core.Bool.{Bool, true, false}
use mathlib.Core.List.{List, ◌∷◌, map}
use lib.ListN.{length, get_or, take, drop, drop_of_length-le}
use lib.Dec.{eqb}
use lib.Seq.{drop-cons}
use Rattle.perms.specs.declared.Perms.{Perms}
use Rattle.pattern.specs.Expansions.{Variable}
use Rattle.pattern.specs.Table.{env}
use Rattle.words.specs.declared.Words.{Words}
use Rattle.findings.specs.Findings.{Access}
use Rattle.findings.specs.Weighed.{Weighed, nothing}
use Rattle.answer.specs.declared.Answer.{Answer}
use Rattle.entries.specs.Entries.{entry_of, names_from, policy_in}
use Rattle.entries.specs.declared.Record.{Record}
use Rattle.asking.specs.Asking.{asked_of}
use Rattle.asking.specs.Steps.{concluded, gathered_in, out_of, number_from, query_by, query_of, refused_for, refused_query, weighed_entry}
use Rattle.asking.specs.declared.Query.{Query}
use Rattle.asking.proofs.Laws.{asking-walked, walked}

-- ---- a record more
module _ (s : List ℕ) (vs : List Variable) (a : Access) (w : Words) (k : ℕ) (es : List Record) (i : ℕ) (d : Record) (f : Weighed) where
  abbrev gathers : List Record → Weighed → Weighed
  gathers rs g = gathered_in s vs a w k (map (entry_of s) rs) g

  pub gather-out : i < length es → out_of w k (entry_of s (get_or es i d)) ≡ true → gathers (drop i es) f ≡ gathers (drop (i + 1) es) f
  unfolding gathered_in
  gather-out l e =
      ap (λ (rs : List Record). gathers rs f) (drop-cons es i d l ∙ ap (λ (j : ℕ). get_or es i d ∷ drop j es) (sym (add-one i)))
      ∙ ap (λ (t : Bool). gathers (drop (i + 1) es) (if t then f else weighed_entry s vs a (entry_of s (get_or es i d)) f)) e

  pub gather-in : i < length es → out_of w k (entry_of s (get_or es i d)) ≡ false
      → gathers (drop i es) f ≡ gathers (drop (i + 1) es) (weighed_entry s vs a (entry_of s (get_or es i d)) f)
  unfolding gathered_in
  gather-in l e =
      ap (λ (rs : List Record). gathers rs f) (drop-cons es i d l ∙ ap (λ (j : ℕ). get_or es i d ∷ drop j es) (sym (add-one i)))
      ∙ ap (λ (t : Bool). gathers (drop (i + 1) es) (if t then f else weighed_entry s vs a (entry_of s (get_or es i d)) f)) e

  pub gather-end : length es ≤ i → gathers (drop i es) f ≡ f
  unfolding gathered_in
  gather-end l = ap (λ (rs : List Record). gathers rs f) (drop_of_length-le es {i = i} l)

-- ---- before and behind the walk
module _ (s h : List ℕ) (n : ℕ) (m p : List ℕ) (asked : Perms) (owner : Bool) where
  -- a request is refused, and has no record to walk, or it is one of a profile
  queried : (Φ : Query → Type 0) → ((k : ℕ) → Φ (refused_query k p asked owner)) → ((i : ℕ) → Φ (query_by (suc i) h n p asked owner)) → Φ (query_of s h n m p asked owner)
  unfolding query_of
  queried Φ ref prof = by-refusal (eqb (refused_for s p asked.0) 0) (number_from m 0 (names_from s (drop 1120 h) (min 32 (get_or h 1249 0)) 0)) (refused_for s p asked.0)
    where
      by-refusal : (t : Bool) (i k : ℕ) → Φ (if t then query_by i h n p asked owner else refused_query k p asked owner)
      by-refusal true zero k = ref 11
      by-refusal true (suc i) k = prof i
      by-refusal false i k = ref k

  pub count-within : (r : Query) → r ≡ query_of s h n m p asked owner → r.count ≤ n
  count-within r e = subst (λ (z : Query). z.count ≤ n) (sym e) (queried (λ (z : Query). z.count ≤ n) (λ k. omega arith) (λ i. min-le_left n (get_or h 1250 0)))

module _ (s h : List ℕ) (ys : List Record) (m p : List ℕ) (asked : Perms) (owner : Bool) where
  abbrev answers : Query → Answer
  answers r = concluded r (gathered_in s (env s h r.variables) (record { path = p; owner = r.owner }) r.words r.profile (map (entry_of s) (take r.count ys)) nothing)

  -- what the walk ends with is the answer
  pub asked_by : (r : Query) → r ≡ query_of s h (length ys) m p asked owner → answers r ≡ asked_of s (policy_in s h ys) m p asked.0 owner
  unfolding walked
  asked_by r e =
      ap answers e ∙ queried s h (length ys) m p asked owner (λ (z : Query). answers z ≡ walked s h ys m p asked owner z) (λ k. refl) (λ i. refl)
      ∙ asking-walked s h ys m p asked owner
