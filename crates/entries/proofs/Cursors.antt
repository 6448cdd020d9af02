-- What is still to come from a cursor.
use Rattle.std.proofs.Common.{Option, Some, None}
use Prim.Native.Nat.{ℕ, zero, suc, ◌+◌, ◌*◌, ◌-◌, ◌≤◌, ◌<◌, min}
use mathlib.Core.Path.{◌≡◌, refl, sym, ap, ap₂, ◌∙◌}
use mathlib.Core.List.{List, [], ◌∷◌, ◌++◌, map}
use lib.ListN.{get_or, drop}
use lib.Seq.{get_or-drop}
use native.Mathlib.Omega.{arith}
use borrow.Author.Tests.{lt-ltb, le-ltb}
use Rattle.text.specs.Reading.{Reading, Read}
use Rattle.text.specs.declared.Place.{Place}
use Rattle.rule.specs.Rules.{Rule, RuleRead, Step, More, rule_at}
use Rattle.rule.specs.Places.{rule_of}
use Rattle.rule.specs.declared as code
use Rattle.statement.specs.Steps.{rule_then, rules_from}
use Rattle.profile.specs.Places.{profiles_again, profiles_by}
use Rattle.entries.specs.Entries.{Entry, entry, entries_from, entry_of}
use Rattle.entries.specs.Ahead.{Left, cursor_at, left_of, one_of, rest_from}
use Rattle.entries.specs.declared.Cursor.{Cursor}
use Rattle.entries.specs.declared.Next.{Next}
use Rattle.entries.specs.declared.Record.{Record}

-- ---- the rules of one profile

-- no rule is left of a cursor's profile
none_left : (text : List ℕ) (c : Cursor) → left_of text c ≡ [] → Left text c None
none_left text c e = record { one = e; same = tt }

module _ (text : List ℕ) (c : Cursor) where
  pub left-none : c.left ≡ 0 → Left text c None
  unfolding rules_from
  left-none e = none_left text c (rw e)

  abbrev here : Reading Step
  here = rule_at (λ _. 0) text c.at.0

  left_by : (k : ℕ) → c.left ≡ suc k → left_of text c ≡ map (entry c.profile) (rule_then (λ r. rules_from k (λ _. 0) text r.next) here)
  unfolding rules_from
  left_by k e = rw e

  module _ (some : c.left ≡ 0 → ⊥) where
    -- where no rule stands
    pub left_end : {x : Reading Step} → x ≡ here → ((f : RuleRead → List Rule) → rule_then f x ≡ []) → Left text c None
    left_end e not =
        let k : c.left ≡ suc (c.left - 1) = omega arith in
        none_left text c (left_by (c.left - 1) k ∙ ap (λ (y : Reading Step). map (entry c.profile) (rule_then (λ q. rules_from (c.left - 1) (λ _. 0) text q.next) y)) (sym e) ∙ ap (map (entry c.profile)) (not (λ q. rules_from (c.left - 1) (λ _. 0) text q.next)))

    -- a rule more
    pub left_one : (q : code.Rule.Rule) (n : Place) → Read (More (record { rule = rule_of text q; next = n.0 })) ≡ here → q.profile ≡ c.profile → (t : Record) → entry_of text t ≡ entry q.profile (rule_of text q) →
        Left text c (Some (record { «record» = t; next = record { profile = c.profile; left = c.left - 1; at = n } }))
    left_one q n e p t h =
        let k : c.left ≡ suc (c.left - 1) = omega arith in
        record {
          one =
              left_by (c.left - 1) k
              ∙ ap (λ (y : Reading Step). map (entry c.profile) (rule_then (λ r. rules_from (c.left - 1) (λ _. 0) text r.next) y)) (sym e)
              ∙ ap (λ (y : Entry). y ∷ map (entry c.profile) (rules_from (c.left - 1) (λ _. 0) text n.0)) (sym (h ∙ ap (λ (i : ℕ). entry i (rule_of text q)) p));
          same = refl;
        }

-- ---- and those of the profiles behind it

module _ (text head : List ℕ) where
  abbrev pub count : ℕ
  count = min 32 (get_or head 1249 0)

  abbrev behind : ℕ → List Entry
  behind i = entries_from i (profiles_again text (drop 1120 head) (count - i) i)

  rest_in : (c : Cursor) → c.profile < count → rest_from text head c ≡ left_of text c ++ behind (c.profile + 1)
  unfolding rest_from
  rest_in c h = rw (lt-ltb c.profile count h)

  pub rest_out : (c : Cursor) → count ≤ c.profile → rest_from text head c ≡ []
  unfolding rest_from
  rest_out c h = rw (le-ltb c.profile count h)

  kept : (i : ℕ) → left_of text (cursor_at head i) ≡ map (entry i) (rules_from (get_or (drop 1120 head) (4 * i + 3) 0) (λ _. 0) text (get_or (drop 1120 head) (4 * i + 2) 0))
  kept i =
      let a : 1120 + 4 * i + 3 ≡ 1120 + (4 * i + 3) = omega arith in
      let b : 1120 + 4 * i + 2 ≡ 1120 + (4 * i + 2) = omega arith in
      ap₂ (λ (x y : ℕ). map (entry i) (rules_from x (λ _. 0) text y))
      (ap (λ (m : ℕ). get_or head m 0) a ∙ sym (get_or-drop 1120 head (4 * i + 3) 0))
      (ap (λ (m : ℕ). get_or head m 0) b ∙ sym (get_or-drop 1120 head (4 * i + 2) 0))

  -- from the first rule of a profile on
  pub rest_at : (i : ℕ) → rest_from text head (cursor_at head i) ≡ behind i
  unfolding entries_from profiles_by
  rest_at i = go (count - i) refl
    where
      go : (k : ℕ) → count - i ≡ k → rest_from text head (cursor_at head i) ≡ entries_from i (profiles_again text (drop 1120 head) (count - i) i)
      go zero e = rest_out (cursor_at head i) (omega arith) ∙ rw e
      go (suc k) e =
          let f : count - (i + 1) ≡ k = omega arith in
          rest_in (cursor_at head i) (omega arith)
          ∙ ap₂ ◌++◌ (kept i) (ap (λ (m : ℕ). entries_from (i + 1) (profiles_again text (drop 1120 head) m (i + 1))) f)
          ∙ rw e

  module _ (c : Cursor) (h : c.profile < count) where
    -- a profile without rules is passed over
    pub rest-pass : (r : Option Next) → Left text c r → r ≡ None → rest_from text head (cursor_at head (c.profile + 1)) ≡ rest_from text head c
    rest-pass r l f =
        let e : left_of text c ≡ [] = l.one ∙ rw f in
        rest_at (c.profile + 1) ∙ sym (rest_in c h ∙ rw e)

    -- a rule more
    pub rest-one : (r : Next) → Left text c (Some r) → rest_from text head c ≡ one_of text (rest_from text head) (Some r)
    rest-one r l =
        let k : r.next.profile < count = rw l.same h in
        let n : rest_from text head r.next ≡ left_of text r.next ++ behind (c.profile + 1) = rest_in r.next k ∙ rw l.same in
        rest_in c h ∙ ap (λ (x : List Entry). x ++ behind (c.profile + 1)) l.one ∙ ap (λ (x : List Entry). entry_of text r.record ∷ x) (sym n)
