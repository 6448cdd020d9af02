-- What a store changes in the table of variables.
use Prim.Native.Nat.{ℕ, zero, suc, ◌+◌, ◌*◌, ◌-◌, ◌≤◌, ◌<◌, min}
use mathlib.Core.Path.{◌≡◌, refl, sym, ap, ap₂, ◌∙◌}
use mathlib.Core.List.{List, [], ◌∷◌, ◌++◌, append-nil, append_assoc}
use lib.ListN.{length, get_or, set, length-append}
use lib.Seq.{get_or-set_same, get_or-set_other, lt-length-set}
use borrow.Author.Tests.{lt-ltb, le-ltb}
use native.Mathlib.Omega.{arith}
use Rattle.scan.specs.Bytes.{span}
use Rattle.pattern.specs.Expansions.{Variable}
use Rattle.pattern.specs.Table.{bytes_at, values_from, values_of, variables}
use Rattle.variables.specs.Added.{held_by, room, three_set, name_set, value_at, value_set, Named, Added}

-- ---- three cells stored

module _ (t : List ℕ) (i j k x y z : ℕ) where
  abbrev stored : List ℕ
  stored = three_set t i j k x y z

  kept : (m : ℕ) → (m ≡ i → ⊥) → (m ≡ j → ⊥) → (m ≡ k → ⊥) → get_or stored m 0 ≡ get_or t m 0
  kept m p q r = get_or-set_other (set (set t i x) j y) k m z 0 r ∙ get_or-set_other (set t i x) j m y 0 q ∙ get_or-set_other t i m x 0 p

  first : (i ≡ j → ⊥) → (i ≡ k → ⊥) → i < length t → get_or stored i 0 ≡ x
  first q r h = get_or-set_other (set (set t i x) j y) k i z 0 r ∙ get_or-set_other (set t i x) j i y 0 q ∙ get_or-set_same t i x 0 h

  second : (j ≡ k → ⊥) → j < length t → get_or stored j 0 ≡ y
  second r h = get_or-set_other (set (set t i x) j y) k j z 0 r ∙ get_or-set_same (set t i x) j y 0 (lt-length-set t i x h)

  third : k < length t → get_or stored k 0 ≡ z
  third h = get_or-set_same (set (set t i x) j y) k z 0 (lt-length-set (set t i x) j y (lt-length-set t i x h))

-- ---- bytes, values and variables of two tables

abbrev variable : List ℕ → List (List ℕ) → Variable
variable n vs = record { name = n; values = vs }

module _ (text new old : List ℕ) where
  bytes-cong : (i : ℕ) → get_or new i 0 ≡ get_or old i 0 → get_or new (i + 1) 0 ≡ get_or old (i + 1) 0 → bytes_at text new i ≡ bytes_at text old i
  bytes-cong i e f = ap₂ (λ (a b : ℕ). span text a b) e f

  values-cong : (k i : ℕ) → ((j : ℕ) → i ≤ j → j < i + k → bytes_at text new (96 + 2 * j) ≡ bytes_at text old (96 + 2 * j)) →
      values_from text new k i ≡ values_from text old k i
  unfolding values_from
  values-cong zero i h = refl
  values-cong (suc k) i h = ap₂ ◌∷◌ (h i (omega arith) (omega arith)) (values-cong k (i + 1) λ j p q. h j (omega arith) (omega arith))

  values-kept : (v : ℕ) → get_or new (64 + v) 0 ≡ get_or old (64 + v) 0 →
      ((j : ℕ) → 16 * v ≤ j → j < 16 * v + 16 → bytes_at text new (96 + 2 * j) ≡ bytes_at text old (96 + 2 * j)) → values_of text new v ≡ values_of text old v
  values-kept v e h =
      ap (λ (c : ℕ). values_from text new (min 16 c) (16 * v)) e
      ∙ values-cong (min 16 (get_or old (64 + v) 0)) (16 * v) λ j p q. h j p (omega arith)

  variables-cong : (n : ℕ) → ((v : ℕ) → v < n → bytes_at text new (2 * v) ≡ bytes_at text old (2 * v)) →
      ((v : ℕ) → v < n → values_of text new v ≡ values_of text old v) → variables text new n ≡ variables text old n
  unfolding variables
  variables-cong zero f g = refl
  variables-cong (suc w) f g =
      ap₂ ◌∷◌
      (ap₂ variable (f w (omega arith)) (g w (omega arith)))
      (variables-cong w (λ v h. f v (omega arith)) (λ v h. g v (omega arith)))

-- one value more at the end
values-last : (text t : List ℕ) (k i : ℕ) → values_from text t (suc k) i ≡ values_from text t k i ++ (bytes_at text t (96 + 2 * (i + k)) ∷ [])
unfolding values_from
values-last text t zero i = let e : i + 0 ≡ i = omega arith in rw e
values-last text t (suc k) i =
    let e : i + 1 + k ≡ i + suc k = omega arith in
    ap (λ (l : List (List ℕ)). bytes_at text t (96 + 2 * i) ∷ l) (values-last text t k (i + 1) ∙ rw e)

values_length : (text t : List ℕ) (k i : ℕ) → length (values_from text t k i) ≡ k
unfolding values_from
values_length text t zero i = refl
values_length text t (suc k) i = ap suc (values_length text t k (i + 1))

pub length-values : (text t : List ℕ) (w : ℕ) → length (values_of text t w) ≡ held_by t w
length-values text t w = values_length text t (held_by t w) (16 * w)

-- ---- a name

module _ (t : List ℕ) (w start end : ℕ) where
  pub name-room : w < 32 → name_set t w start end ≡ three_set t (2 * w) (2 * w + 1) (64 + w) start end 0
  unfolding name_set
  name-room h = rw (lt-ltb w 32 h, name_set)

  pub name-full : 32 ≤ w → name_set t w start end ≡ t
  unfolding name_set
  name-full h = rw (le-ltb w 32 h, name_set)

module _ (t : List ℕ) (w start end : ℕ) (size : length t ≡ 1120) (h : w < 32) where
  abbrev opened : List ℕ
  opened = stored t (2 * w) (2 * w + 1) (64 + w) start end 0

  cell : (m : ℕ) → (m ≡ 2 * w → ⊥) → (m ≡ 2 * w + 1 → ⊥) → (m ≡ 64 + w → ⊥) → get_or opened m 0 ≡ get_or t m 0
  cell = kept t (2 * w) (2 * w + 1) (64 + w) start end 0

  named-cells : (text : List ℕ) → Named text t opened w start end
  unfolding variables values_from
  named-cells text =
      let called : bytes_at text opened (2 * w) ≡ span text start end =
      ap₂ (λ (a b : ℕ). span text a b)
      (first t (2 * w) (2 * w + 1) (64 + w) start end 0 (λ e. omega arith) (λ e. omega arith) (omega arith))
      (second t (2 * w) (2 * w + 1) (64 + w) start end 0 (λ e. omega arith) (omega arith)) in
      let none : values_of text opened w ≡ [] =
      ap (λ (c : ℕ). values_from text opened (min 16 c) (16 * w)) (third t (2 * w) (2 * w + 1) (64 + w) start end 0 (omega arith)) in
      let behind : variables text opened w ≡ variables text t w =
      variables-cong text opened t w
      (λ v p. bytes-cong text opened t (2 * v)
      (cell (2 * v) (λ e. omega arith) (λ e. omega arith) (λ e. omega arith))
      (cell (2 * v + 1) (λ e. omega arith) (λ e. omega arith) (λ e. omega arith)))
      (λ v p. values-kept text opened t v
      (cell (64 + v) (λ e. omega arith) (λ e. omega arith) (λ e. omega arith))
      λ j l u. bytes-cong text opened t (96 + 2 * j)
      (cell (96 + 2 * j) (λ e. omega arith) (λ e. omega arith) (λ e. omega arith))
      (cell (96 + 2 * j + 1) (λ e. omega arith) (λ e. omega arith) (λ e. omega arith))) in
      record {
        front = ap₂ ◌∷◌ (ap₂ variable called none) behind;
        behind = behind;
        called = called;
        none = none;
      }

  pub name_set_lem : (text : List ℕ) → Named text t (name_set t w start end) w start end
  name_set_lem text = rw (name-room t w start end h) (named-cells text)

-- ---- a value

abbrev next : List ℕ → ℕ → ℕ
next t w = value_at w (get_or t (64 + w) 0)

module _ (t : List ℕ) (w a e : ℕ) where
  pub value_room : w < 32 → get_or t (64 + w) 0 < 16 → value_set t w a e ≡ three_set t (next t w) (next t w + 1) (64 + w) a e (get_or t (64 + w) 0 + 1)
  unfolding value_set
  value_room h f = rw (lt-ltb w 32 h, lt-ltb (get_or t (64 + w) 0) 16 f, value_set)

  pub value-many : w < 32 → 16 ≤ get_or t (64 + w) 0 → value_set t w a e ≡ t
  unfolding value_set
  value-many h f = rw (lt-ltb w 32 h, le-ltb (get_or t (64 + w) 0) 16 f, value_set)

  pub value-full : 32 ≤ w → value_set t w a e ≡ t
  unfolding value_set
  value-full h = rw (le-ltb w 32 h, value_set)

module _ (t : List ℕ) (w a e : ℕ) (size : length t ≡ 1120) (h : w < 32) (free : get_or t (64 + w) 0 < 16) where
  abbrev k : ℕ
  k = get_or t (64 + w) 0

  abbrev i : ℕ
  i = 96 + 2 * (16 * w + k)

  abbrev grown : List ℕ
  grown = stored t i (i + 1) (64 + w) a e (k + 1)

  cell2 : (m : ℕ) → (m ≡ i → ⊥) → (m ≡ i + 1 → ⊥) → (m ≡ 64 + w → ⊥) → get_or grown m 0 ≡ get_or t m 0
  cell2 = kept t i (i + 1) (64 + w) a e (k + 1)

  value-more : (text : List ℕ) → values_of text grown w ≡ values_of text t w ++ (span text a e ∷ [])
  value-more text =
      let c : min 16 (get_or grown (64 + w) 0) ≡ suc k = omega (arith, third t i (i + 1) (64 + w) a e (k + 1) (omega arith)) in
      let d : min 16 k ≡ k = omega arith in
      let b : bytes_at text grown i ≡ span text a e =
      ap₂ (λ (x y : ℕ). span text x y)
      (first t i (i + 1) (64 + w) a e (k + 1) (λ q. omega arith) (λ q. omega arith) (omega arith))
      (second t i (i + 1) (64 + w) a e (k + 1) (λ q. omega arith) (omega arith)) in
      let before : values_from text grown k (16 * w) ≡ values_from text t k (16 * w) =
      values-cong text grown t k (16 * w) λ j l u. bytes-cong text grown t (96 + 2 * j)
      (cell2 (96 + 2 * j) (λ q. omega arith) (λ q. omega arith) (λ q. omega arith))
      (cell2 (96 + 2 * j + 1) (λ q. omega arith) (λ q. omega arith) (λ q. omega arith)) in
      ap (λ (n : ℕ). values_from text grown n (16 * w)) c
      ∙ values-last text grown k (16 * w)
      ∙ ap₂ (λ (xs : List (List ℕ)) (x : List ℕ). xs ++ (x ∷ [])) before b
      ∙ ap (λ (n : ℕ). values_from text t n (16 * w) ++ (span text a e ∷ [])) (sym d)

  added-cells : (text : List ℕ) → Added text t grown w (span text a e ∷ [])
  added-cells text =
      record {
        names = λ v p. bytes-cong text grown t (2 * v)
            (cell2 (2 * v) (λ q. omega arith) (λ q. omega arith) (λ q. omega arith))
            (cell2 (2 * v + 1) (λ q. omega arith) (λ q. omega arith) (λ q. omega arith));
        others = λ v p d. values-kept text grown t v
            (cell2 (64 + v) (λ q. omega arith) (λ q. omega arith) (λ q. d (omega arith)))
            λ j l u. bytes-cong text grown t (96 + 2 * j)
            (cell2 (96 + 2 * j) (λ q. d (omega arith)) (λ q. omega arith) (λ q. omega arith))
            (cell2 (96 + 2 * j + 1) (λ q. omega arith) (λ q. d (omega arith)) (λ q. omega arith));
        more = value-more text;
      }

  pub value_set_lem : (text : List ℕ) → Added text t (value_set t w a e) w (span text a e ∷ [])
  value_set_lem text = rw (value_room t w a e h free) (added-cells text)

-- ---- steps in a row

module _ (text : List ℕ) (w : ℕ) where
  pub added_none : (t : List ℕ) → Added text t t w []
  added_none t = record { names = λ v h. refl; others = λ v h d. refl; more = sym (append-nil (values_of text t w)) }

  module _ {a b c : List ℕ} {xs ys : List (List ℕ)} (f : Added text a b w xs) (g : Added text b c w ys) where
    pub added-both : Added text a c w (xs ++ ys)
    added-both =
        record {
          names = λ v h. g.names v h ∙ f.names v h;
          others = λ v h d. g.others v h d ∙ f.others v h d;
          more = g.more ∙ ap (λ (l : List (List ℕ)). l ++ ys) f.more ∙ append_assoc (values_of text a w) xs ys;
        }

  module _ {old new : List ℕ} {xs : List (List ℕ)} (f : Added text old new w xs) where
    -- the variables before it are as they were
    pub added-before : w ≤ 32 → variables text new w ≡ variables text old w
    added-before h = variables-cong text new old w (λ v p. f.names v (omega arith)) (λ v p. f.others v (omega arith) (λ e. omega arith))

    pub added-room : room new w ≡ room old w - length xs
    added-room =
        let e : length (values_of text new w) ≡ length (values_of text old w) + length xs = ap length f.more ∙ length-append (values_of text old w) xs in
        omega (arith, length-values text new w, length-values text old w)
