-- Laws of permission sets: what union and difference do to each permission, and that a set is its permissions.
use mathlib.Core.Path.{◌≡◌, refl, sym, ap, ◌∙◌, subst}
use mathlib.Core.Logic.{⊎_elim, ◌⊎◌, inl, inr}
use mathlib.Core.Bool.{Bool, true, false, not, ◌&&◌, ◌||◌, beq, or_assoc, false≢true}
use Prim.Native.Nat.{ℕ, zero, suc, ◌+◌, ◌*◌, ◌/◌, ◌%◌, ◌^◌, ◌-◌, ◌≤◌, ◌<◌}
use native.Mathlib.Nat.{not-suc-le-zero, zero-lt-suc, pow-suc, div-div-eq-div-mul, mul_comm, div-one, lt_of_lt_of_le}
use native.Mathlib.Omega.{arith}
use lib.Dec.{eqb}
use lib.Arith.{lt-one}
use lib.Pow.{pow_mono}
use lib.Bits.{bit_and, bit_or, or_shr, or_mod, and_shr, and_mod, or_lt, and_lt, and_le_l}
use borrow.Author.Tests.{eqb-true, eq-eqb}
use Rattle.scan.proofs.Bools.{and_left, and_right, beq-eq, iff}
use Rattle.perms.specs.Sets.{has, digit, set_of, perms, unite, without, within}
use Rattle.perms.specs.declared.Perms.{Perms}

-- Bools

-- one binary digit

mod-two : (n : ℕ) → n % 2 < 2
mod-two n = omega arith

or-bit : (a b : ℕ) → a < 2 → b < 2 → eqb (bit_or a b) 1 ≡ (eqb a 1 || eqb b 1)
or-bit zero zero ha hb = refl
or-bit zero (suc zero) ha hb = refl
or-bit zero (suc (suc b)) ha hb = absurd (omega arith)
or-bit (suc zero) zero ha hb = refl
or-bit (suc zero) (suc zero) ha hb = refl
or-bit (suc zero) (suc (suc b)) ha hb = absurd (omega arith)
or-bit (suc (suc a)) b ha hb = absurd (omega arith)

and-bit : (a b : ℕ) → a < 2 → b < 2 → eqb (bit_and a b) 1 ≡ (eqb a 1 && eqb b 1)
and-bit zero zero ha hb = refl
and-bit zero (suc zero) ha hb = refl
and-bit zero (suc (suc b)) ha hb = absurd (omega arith)
and-bit (suc zero) zero ha hb = refl
and-bit (suc zero) (suc zero) ha hb = refl
and-bit (suc zero) (suc (suc b)) ha hb = absurd (omega arith)
and-bit (suc (suc a)) b ha hb = absurd (omega arith)

digit-eq : (a b : ℕ) → a < 2 → b < 2 → eqb a 1 ≡ eqb b 1 → a ≡ b
digit-eq zero zero ha hb e = refl
digit-eq zero (suc zero) ha hb e = absurd (false≢true e)
digit-eq zero (suc (suc b)) ha hb e = absurd (omega arith)
digit-eq (suc zero) zero ha hb e = absurd (false≢true (sym e))
digit-eq (suc zero) (suc zero) ha hb e = refl
digit-eq (suc zero) (suc (suc b)) ha hb e = absurd (omega arith)
digit-eq (suc (suc a)) b ha hb e = absurd (omega arith)

digit_lt : (b : Bool) → digit b < 2
digit_lt true = omega arith
digit_lt false = omega arith

digit-eqb : (b : Bool) → eqb (digit b) 1 ≡ b
digit-eqb true = refl
digit-eqb false = refl

first-digit : (x : ℕ) (b : Bool) → has x 0 ≡ b → x % 2 ≡ digit b
unfolding has
first-digit x b e = digit-eq (x % 2) (digit b) (mod-two x) (digit_lt b) (simp div-one at e ∙ sym (digit-eqb b))

next-digit : (x k : ℕ) → has (x / 2) k ≡ has x (suc k)
unfolding has
next-digit x k = rw (div-div-eq-div-mul, pow-suc 2 k, mul_comm (2 ^ k) 2)

-- the operations at each digit

pub has-or : (a b k : ℕ) → has (bit_or a b) k ≡ (has a k || has b k)
unfolding has
has-or a b k =
    let x : ℕ = a / 2 ^ k in
    let y : ℕ = b / 2 ^ k in
    ap (λ (n : ℕ). eqb n 1) (ap (λ (n : ℕ). n % 2) (or_shr a b k) ∙ or_mod x y 1) ∙ or-bit (x % 2) (y % 2) (mod-two x) (mod-two y)

pub has-and : (a b k : ℕ) → has (bit_and a b) k ≡ (has a k && has b k)
unfolding has
has-and a b k =
    let x : ℕ = a / 2 ^ k in
    let y : ℕ = b / 2 ^ k in
    ap (λ (n : ℕ). eqb n 1) (ap (λ (n : ℕ). n % 2) (and_shr a b k) ∙ and_mod x y 1) ∙ and-bit (x % 2) (y % 2) (mod-two x) (mod-two y)

-- a test that antt computes at every number below n
abbrev below : ℕ → (ℕ → Bool) → Bool
below zero f = true
below (suc n) f = below n f && f n

below_at : (n : ℕ) (f : ℕ → Bool) → below n f ≡ true → (k : ℕ) → k < n → f k ≡ true
below_at zero f e k h = absurd (not-suc-le-zero h)
below_at (suc n) f e k h =
    ⊎_elim
    (λ q. subst (λ (j : ℕ). f j ≡ true) (sym q) (and_right (below n f) (f n) e))
    (λ l. below_at n f (and_left (below n f) (f n) e) k l)
    (split k n h)
  where
    split : (k n : ℕ) → k < suc n → (k ≡ n) ⊎ (k < n)
    split zero zero h = inl refl
    split zero (suc n) h = inr (zero-lt-suc n)
    split (suc k) zero h = absurd (omega arith)
    split (suc k) (suc n) h = ⊎_elim (λ q. inl (ap suc q)) (λ l. inr (omega arith)) (split k n (omega arith))

unfoldable not_right : ℕ → ℕ → Bool
not_right b k = beq (has (255 - b) k) (not (has b k))

not_table : below 256 (λ b. below 8 (not_right b)) ≡ true
unfolding has not_right
not_table = refl

pub has-not : (b k : ℕ) → b < 256 → k < 8 → has (255 - b) k ≡ not (has b k)
unfolding not_right
has-not b k hb hk = beq-eq (has (255 - b) k) (not (has b k)) (below_at 8 (not_right b) (below_at 256 (λ b. below 8 (not_right b)) not_table b hb) k hk)

-- a number is its digits

pub ext : (n a b : ℕ) → a < 2 ^ n → b < 2 ^ n → ((k : ℕ) → k < n → has a k ≡ has b k) → a ≡ b
ext zero a b ha hb h = lt-one ha ∙ sym (lt-one hb)
ext (suc n) a b ha hb h =
    let half : a / 2 ≡ b / 2 = ext n (a / 2) (b / 2) (omega (arith, pow-suc 2 n)) (omega (arith, pow-suc 2 n)) (λ k l. next-digit a k ∙ h (suc k) (omega arith) ∙ sym (next-digit b k)) in
    let low : a % 2 ≡ b % 2 = first-digit a (has b 0) (h 0 (omega arith)) ∙ sym (first-digit b (has b 0) refl) in
    omega arith

-- set_of: it is below its power of two, has the permissions that it is made of, and is the only such set

pub set-lt : (n : ℕ) (f : ℕ → Bool) → set_of n f < 2 ^ n
set-lt zero f = omega arith
set-lt (suc n) f = omega (arith, pow-suc 2 n, set-lt n (λ k. f (suc k)), digit_lt (f 0))

pub has-set : (n : ℕ) (f : ℕ → Bool) (k : ℕ) → k < n → has (set_of n f) k ≡ f k
unfolding has
has-set zero f k h = absurd (not-suc-le-zero h)
has-set (suc n) f zero h =
    let e : (digit (f 0) + 2 * set_of n (λ k. f (suc k))) % 2 ≡ digit (f 0) = omega (arith, digit_lt (f 0)) in
    rw (div-one, e, digit-eqb)
has-set (suc n) f (suc k) h =
    let e : (digit (f 0) + 2 * set_of n (λ j. f (suc j))) / 2 ≡ set_of n (λ j. f (suc j)) = omega (arith, digit_lt (f 0)) in
    sym (next-digit (digit (f 0) + 2 * set_of n (λ j. f (suc j))) k) ∙ rw e (has-set n (λ j. f (suc j)) k (omega arith))

pub set-eq : (n a : ℕ) (f : ℕ → Bool) → a < 2 ^ n → ((k : ℕ) → k < n → has a k ≡ f k) → a ≡ set_of n f
set-eq n a f h e = ext n a (set_of n f) h (set-lt n f) (λ k l. e k l ∙ sym (has-set n f k l))

-- union

below_power : (n : ℕ) → n < 2 ^ n
below_power zero = omega arith
below_power (suc n) = omega (arith, below_power n, pow-suc 2 n)

pub or-associative : (a b c : ℕ) → bit_or (bit_or a b) c ≡ bit_or a (bit_or b c)
or-associative a b c =
    let n : ℕ = a + b + c in
    let ha : a < 2 ^ n = lt_of_lt_of_le (below_power a) (pow_mono (omega arith)) in
    let hb : b < 2 ^ n = lt_of_lt_of_le (below_power b) (pow_mono (omega arith)) in
    let hc : c < 2 ^ n = lt_of_lt_of_le (below_power c) (pow_mono (omega arith)) in
    ext n (bit_or (bit_or a b) c) (bit_or a (bit_or b c)) (or_lt n (bit_or a b) c (or_lt n a b ha hb) hc) (or_lt n a (bit_or b c) ha (or_lt n b c hb hc))
    (λ k l. rw (has-or (bit_or a b) c k, has-or a b k, has-or a (bit_or b c) k, has-or b c k, or_assoc))

-- the operations of the code: the sets of the definitions by the machine's operators
module _ (a b : Perms) (ha : a.0 < 256) (hb : b.0 < 256) where
  pub or-unite : unite a b ≡ perms (bit_or a.0 b.0)
  or-unite = ap perms (sym (set-eq 8 (bit_or a.0 b.0) (λ k. has a.0 k || has b.0 k) (or_lt 8 a.0 b.0 ha hb) (λ k l. has-or a.0 b.0 k)))

  pub unite-lt : a.0 < 128 → b.0 < 128 → (unite a b).0 < 128
  unite-lt ka kb = let e : (unite a b).0 ≡ bit_or a.0 b.0 = ap (λ (p : Perms). p.0) or-unite in omega (arith, or_lt 7 a.0 b.0 ka kb)

  pub and-without : without a b ≡ perms (bit_and a.0 (255 - b.0))
  and-without =
      ap perms
      (sym
      (set-eq 8 (bit_and a.0 (255 - b.0)) (λ k. has a.0 k && not (has b.0 k)) (and_lt 8 a.0 (255 - b.0) ha (omega arith))
      (λ k l. rw (has-and a.0 (255 - b.0) k, has-not b.0 k hb l))))

  pub without-le : (without a b).0 ≤ a.0
  without-le = let e : (without a b).0 ≡ bit_and a.0 (255 - b.0) = ap (λ (p : Perms). p.0) and-without in omega (arith, and_le_l a.0 (255 - b.0))

-- what is in a union, in a difference, and in a set within another
module _ (a b : Perms) where
  pub has-unite : (k : ℕ) → k < 8 → has (unite a b).0 k ≡ (has a.0 k || has b.0 k)
  has-unite k l = has-set 8 (λ k. has a.0 k || has b.0 k) k l

  pub has-without : (k : ℕ) → k < 8 → has (without a b).0 k ≡ (has a.0 k && not (has b.0 k))
  has-without k l = has-set 8 (λ k. has a.0 k && not (has b.0 k)) k l

  none-lacking : (x y : Bool) → (x && not y) ≡ false → x ≡ true → y ≡ true
  none-lacking true true e h = refl
  none-lacking true false e h = absurd (false≢true (sym e))
  none-lacking false y e h = absurd (false≢true h)

  all_there : (x y : Bool) → (x ≡ true → y ≡ true) → false ≡ (x && not y)
  all_there true y f = rw (f refl)
  all_there false y f = refl

  pub within_has : (k : ℕ) → k < 8 → within a b ≡ true → has a.0 k ≡ true → has b.0 k ≡ true
  within_has k l e =
      none-lacking (has a.0 k) (has b.0 k) (sym (has-without k l) ∙ ap (λ (n : ℕ). has n k) (eqb-true (without a b).0 0 e) ∙ has-set 8 (λ _. false) k l)

  pub has_within : ((k : ℕ) → k < 8 → has a.0 k ≡ true → has b.0 k ≡ true) → within a b ≡ true
  has_within h =
      eq-eqb (without a b).0 0
      (sym (set-eq 8 0 (λ k. has a.0 k && not (has b.0 k)) (omega arith) (λ k l. has-set 8 (λ _. false) k l ∙ all_there (has a.0 k) (has b.0 k) (h k l))))

pub and-within : (a b : Perms) → a.0 < 256 → b.0 < 256 → within a b ≡ eqb (bit_and b.0 a.0) a.0
and-within a b ha hb =
    iff (within a b) (eqb (bit_and b.0 a.0) a.0)
    (λ e. eq-eqb (bit_and b.0 a.0) a.0
    (ext 8 (bit_and b.0 a.0) a.0 (and_lt 8 b.0 a.0 hb ha) ha (λ k l. has-and b.0 a.0 k ∙ go (has b.0 k) (has a.0 k) (within_has a b k l e))))
    (λ e. has_within a b (λ k l h. and_left (has b.0 k) (has a.0 k) (sym (has-and b.0 a.0 k) ∙ ap (λ (n : ℕ). has n k) (eqb-true (bit_and b.0 a.0) a.0 e) ∙ h)))
  where
    go : (x y : Bool) → (y ≡ true → x ≡ true) → (x && y) ≡ y
    go true y f = refl
    go false true f = f refl
    go false false f = refl
