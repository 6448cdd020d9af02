-- The table of modes: the code's table is the definition's, and what is found in it.
use Prim.Native.Nat.{ℕ, suc, ◌+◌}
use mathlib.Core.Path.{◌≡◌, refl, sym, ap, ◌∙◌}
use mathlib.Core.List.{List, [], ◌∷◌, map}
use mathlib.Core.Bool.{Bool, true, false, not, ◌&&◌, beq, and_assoc, false≢true}
use native.Mathlib.Nat.{add_comm}
use native.Mathlib.Omega.{arith}
use lib.Dec.{eqb, ltb}
use lib.ListN.{length, get_or}
use denote.Ref.{Bor}
use denote.Enum.Bare.{sameb, same_true, true_same}
use borrow.Author.Rules.{rules}
use borrow.Author.Tests.{eqb-true, eq-eqb}
use Rattle.std.specs.Cmp.Lexicographic.{pointwise}
use Rattle.std.specs.List.{find, position, position_or_len}
use Rattle.std.specs.Option.{MatchOption, option_map}
use Rattle.std.proofs.Common.{cond, Option, Some, None}
use Rattle.std.proofs.lemmas.Bool.Decides.{nat_tests}
use Rattle.scan.specs.Bytes.{bytes, same}
use Rattle.scan.proofs.Laws.{same-pointwise}
use Rattle.scan.proofs.Bools.{beq-eq, iff}
use Rattle.modes.specs.Modes.{Row, modes, mode_in, number_in, word_in, kind_number, fallback_number, same_mode, execute_number, execute_word}
use Rattle.modes.specs.contracts.Kind as the_kind
use Rattle.modes.specs.contracts.Fallback as the_fallback
use Rattle.modes.specs.declared.Kind.{Kind}
use Rattle.modes.specs.declared.Kind.TheVariants as kind
use Rattle.modes.specs.declared.Fallback.{Fallback}
use Rattle.modes.specs.declared.Fallback.TheVariants as fallback
use Rattle.modes.specs.declared.Mode.{Mode}
use Rattle.modes.specs.declared.Execute.TheVariants.{ByMode}

both : (a b : Bool) → (a && b) ≡ true → (a ≡ true) × (b ≡ true)
both true b e = (refl, e)
both false b e = absurd (false≢true e)

-- two modes are the same exactly when they are equal
kind_of : ℕ → Kind
kind_of n = get_or (kind.Unconfined ∷ kind.Profile ∷ kind.Child ∷ kind.Inherit ∷ []) n kind.Unconfined

kind-back : (k : Kind) → kind_of (kind_number k) ≡ k
unfolding kind_of
kind-back kind.Unconfined = refl
kind-back kind.Profile = refl
kind-back kind.Child = refl
kind-back kind.Inherit = refl

fallback_of : ℕ → Fallback
fallback_of n = get_or (fallback.Absent ∷ fallback.Inherit ∷ fallback.Unconfined ∷ []) n fallback.Absent

fallback-back : (f : Fallback) → fallback_of (fallback_number f) ≡ f
unfolding fallback_of
fallback-back fallback.Absent = refl
fallback-back fallback.Inherit = refl
fallback-back fallback.Unconfined = refl

alike : (a b : Mode) → a.kind ≡ b.kind → a.fallback ≡ b.fallback → a.scrubs ≡ b.scrubs → a ≡ b
alike a b k f s = λ i. record { kind = k i; fallback = f i; scrubs = s i }

kind-eq : (a b : Kind) → kind_number a ≡ kind_number b → a ≡ b
kind-eq a b e = sym (kind-back a) ∙ ap kind_of e ∙ kind-back b

fallback-eq : (a b : Fallback) → fallback_number a ≡ fallback_number b → a ≡ b
fallback-eq a b e = sym (fallback-back a) ∙ ap fallback_of e ∙ fallback-back b

pub same-mode : (a b : Mode) → same_mode a b ≡ true → a ≡ b
unfolding same_mode
same-mode a b e =
    let kinds = eqb (kind_number a.kind) (kind_number b.kind) in
    let fallbacks = eqb (fallback_number a.fallback) (fallback_number b.fallback) in
    let scrubs = beq a.scrubs b.scrubs in
    let rest = both (kinds && fallbacks) scrubs e in
    let first = both kinds fallbacks rest.0 in
    let k : kind_number a.kind ≡ kind_number b.kind = eqb-true _ _ first.0 in
    let f : fallback_number a.fallback ≡ fallback_number b.fallback = eqb-true _ _ first.1 in
    alike a b (kind-eq a.kind b.kind k) (fallback-eq a.fallback b.fallback f) (beq-eq a.scrubs b.scrubs rest.1)

pub same_self : (a : Mode) → same_mode a a ≡ true
unfolding same_mode
same_self a =
    rw (eq-eqb (kind_number a.kind) (kind_number a.kind) refl, eq-eqb (fallback_number a.fallback) (fallback_number a.fallback) refl) (go a.scrubs)
  where
    go : (b : Bool) → beq b b ≡ true
    go true = refl
    go false = refl

-- what the derived == says of two modes
abbrev pub equal : Mode → Mode → Bool
equal a b = sameb the_kind.the_type a.kind b.kind && (sameb the_fallback.the_type a.fallback b.fallback && beq a.scrubs b.scrubs)

same-kind : (a b : Kind) → sameb the_kind.the_type a b ≡ eqb (kind_number a) (kind_number b)
same-kind a b =
    iff (sameb the_kind.the_type a b) (eqb (kind_number a) (kind_number b))
    (λ e. eq-eqb (kind_number a) (kind_number b) (ap kind_number (same_true the_kind.the_type (search rules) a b e)))
    (λ e. true_same the_kind.the_type a b (kind-eq a b (eqb-true _ _ e)))

same-fallback : (a b : Fallback) → sameb the_fallback.the_type a b ≡ eqb (fallback_number a) (fallback_number b)
same-fallback a b =
    iff (sameb the_fallback.the_type a b) (eqb (fallback_number a) (fallback_number b))
    (λ e. eq-eqb (fallback_number a) (fallback_number b) (ap fallback_number (same_true the_fallback.the_type (search rules) a b e)))
    (λ e. true_same the_fallback.the_type a b (fallback-eq a b (eqb-true _ _ e)))

pub equal-same : (a b : Mode) → equal a b ≡ same_mode a b
unfolding same_mode
equal-same a b = rw (same-kind, same-fallback, and_assoc)

-- a row of the code's table, what it shows, and what a row of the definition's shows: a word and a mode
abbrev pub Coded : Type 0
Coded = Bor (List ℕ) × Mode

abbrev pub coded : Coded → List ℕ × Mode
coded r = (r.0.now, r.1)

abbrev pub defined : Row → List ℕ × Mode
defined r = (bytes r.word, r.mode)

-- rows that show the same: the first ones do, and the others
module _ (c : Coded) (r : Row) (cs : List Coded) (rs : List Row) (e : map coded (c ∷ cs) ≡ map defined (r ∷ rs)) where
  head : coded c ≡ defined r
  head = cc

  head_word : c.0.now ≡ bytes r.word
  head_word = ap (λ (p : List ℕ × Mode). p.0) head

  head_mode : c.1 ≡ r.mode
  head_mode = ap (λ (p : List ℕ × Mode). p.1) head

  others : map coded cs ≡ map defined rs
  others = cc

-- one row more to look through: what it shows where it is the one, else what the others show
with_head : {X : Type 0} (shows : Coded → X) (none x y : X) (c : Coded) (o : Option Coded) (a b : Bool) → a ≡ b → x ≡ shows c
    → MatchOption o (y ≡ none) (λ r. y ≡ shows r)
    → MatchOption (cond a (Some c) o) ((elim b as (λ _. X) [ true ↦ x | false ↦ y ]) ≡ none) (λ r. (elim b as (λ _. X) [ true ↦ x | false ↦ y ]) ≡ shows r)
with_head shows none x y c o true true q e i = e
with_head shows none x y c o true false q e i = cc
with_head shows none x y c o false true q e i = cc
with_head shows none x y c o false false q e i = i

-- what is found in rows that show those of the table: by a word, by a mode, and the place of a mode
module _ (w : List ℕ) where
  abbrev pub has_word : Coded → Bool
  has_word r = pointwise eqb w r.0.now

  mode-find : (rs : List Row) (cs : List Coded) → map coded cs ≡ map defined rs
      → MatchOption (find has_word cs) (mode_in rs w ≡ None) (λ r. mode_in rs w ≡ Some r.1)
  unfolding mode_in
  mode-find [] [] e = refl
  mode-find [] (c ∷ cs) e = cc
  mode-find (r ∷ rs) [] e = cc
  mode-find (r ∷ rs) (c ∷ cs) e =
      with_head (λ (r : Coded). Some r.1) None (Some r.mode) (mode_in rs w) c (find has_word cs) (has_word c) (same w (bytes r.word))
      (sym (same-pointwise w c.0.now) ∙ ap (same w) (head_word c r cs rs e))
      (ap Some (sym (head_mode c r cs rs e)))
      (mode-find rs cs (others c r cs rs e))

  pub mode-found : (cs : List Coded) → map coded cs ≡ map defined modes → (r : Option (Bor Coded)) → option_map (λ x. x.now) r ≡ find has_word cs
      → MatchOption r (mode_in modes w ≡ None) (λ x. mode_in modes w ≡ Some x.now.1)
  mode-found cs e None f = rw (← f) at (mode-find modes cs e)
  mode-found cs e (Some x) f = rw (← f) at (mode-find modes cs e)

module _ (m : Mode) where
  abbrev pub has_mode : Coded → Bool
  has_mode r = equal m r.1

  head_has : (c : Coded) (r : Row) (cs : List Coded) (rs : List Row) → map coded (c ∷ cs) ≡ map defined (r ∷ rs) → has_mode c ≡ same_mode m r.mode
  head_has c r cs rs e = equal-same m c.1 ∙ ap (same_mode m) (head_mode c r cs rs e)

  word-find : (rs : List Row) (cs : List Coded) → map coded cs ≡ map defined rs
      → MatchOption (find has_mode cs) (word_in rs m ≡ []) (λ r. word_in rs m ≡ r.0.now)
  unfolding word_in
  word-find [] [] e = refl
  word-find [] (c ∷ cs) e = cc
  word-find (r ∷ rs) [] e = cc
  word-find (r ∷ rs) (c ∷ cs) e =
      with_head (λ (r : Coded). r.0.now) [] (bytes r.word) (word_in rs m) c (find has_mode cs) (has_mode c) (same_mode m r.mode)
      (head_has c r cs rs e)
      (sym (head_word c r cs rs e))
      (word-find rs cs (others c r cs rs e))

  pub word-found : (cs : List Coded) → map coded cs ≡ map defined modes → (r : Option (Bor Coded)) → option_map (λ x. x.now) r ≡ find has_mode cs
      → MatchOption r (word_in modes m ≡ []) (λ x. word_in modes m ≡ x.now.0.now)
  word-found cs e None f = rw (← f) at (word-find modes cs e)
  word-found cs e (Some x) f = rw (← f) at (word-find modes cs e)

  abbrev pub number_by : List Coded → ℕ → ℕ
  number_by cs n = cond (ltb (position_or_len has_mode cs) (length cs)) (n + position_or_len has_mode cs) 255

  number-find : (rs : List Row) (cs : List Coded) (n : ℕ) → map coded cs ≡ map defined rs → number_in rs n m ≡ number_by cs n
  unfolding number_in
  number-find [] [] n e = refl
  number-find [] (c ∷ cs) n e = cc
  number-find (r ∷ rs) [] n e = cc
  number-find (r ∷ rs) (c ∷ cs) n e = go (has_mode c) (same_mode m r.mode) (head_has c r cs rs e) (number-find rs cs (suc n) (others c r cs rs e))
    where
      go : (a b : Bool) → a ≡ b → number_in rs (suc n) m ≡ number_by cs (suc n)
          → (elim b as (λ _. ℕ) [ true ↦ n | false ↦ number_in rs (suc n) m ])
          ≡ cond (ltb (cond (not a) (1 + position_or_len has_mode cs) 0) (suc (length cs))) (n + cond (not a) (1 + position_or_len has_mode cs) 0) 255
      go true true q i = grind (arith, nat_tests)
      go true false q i = cc
      go false true q i = cc
      go false false q i = rw i (grind (arith, nat_tests))

  pub number-found : (cs : List Coded) → map coded cs ≡ map defined modes → (r : Option ℕ) → r ≡ position has_mode cs
      → MatchOption r (number_in modes 3 m ≡ 255) (λ i. number_in modes 3 m ≡ i + 3)
  number-found cs e r f = rw f (go (ltb (position_or_len has_mode cs) (length cs)) (number-find modes cs 3 e))
    where
      go : (b : Bool) → number_in modes 3 m ≡ cond b (3 + position_or_len has_mode cs) 255
          → MatchOption (cond b (Some (position_or_len has_mode cs)) None) (number_in modes 3 m ≡ 255) (λ i. number_in modes 3 m ≡ i + 3)
      go true q = q ∙ add_comm 3 (position_or_len has_mode cs)
      go false q = q

-- over the whole table: each row's word is read back as its mode, its mode is written as its word, and its number is its place and 3
pub record Reads : Type 0 where
  pub mode : Option Mode
  pub word : List ℕ
  pub number : ℕ

unfoldable pub read : Row → Reads
read r = record { mode = mode_in modes (bytes r.word); word = execute_word (ByMode r.mode); number = execute_number (ByMode r.mode) }

unfoldable pub wanted : ℕ → List Row → List Reads
wanted n [] = []
wanted n (r ∷ rs) = record { mode = Some r.mode; word = bytes r.word; number = n } ∷ wanted (suc n) rs

pub modes-read : map read modes ≡ wanted 3 modes
unfolding read wanted mode_in same bytes number_in word_in same_mode
modes-read = refl
