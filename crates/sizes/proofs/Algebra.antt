-- Sizes put together, whatever they hold: in any order, and a size once cut to its bounds stays.
use Rattle.std.specs.Prelude.{if◌then◌else◌}
use Prim.Native.Nat.{ℕ, zero, suc, ◌+◌, ◌*◌, ◌≤◌, min, max}
use mathlib.Core.Path.{◌≡◌, refl, sym, ap, ◌∙◌}
use mathlib.Core.Bool.{Bool, true, false, not, ◌||◌, ◌&&◌}
use lib.Dec.{eqb}
use borrow.Author.Tests.{ne_eqb}
use native.Mathlib.Nat.{mul-zero, zero-mul, mul-one, one-mul, mul_assoc}
use native.Mathlib.Omega.{arith}
use Rattle.sizes.specs.declared.Size.{Size}
use Rattle.sizes.specs.Sizes.{times_of, plus_of, no_size, nil_size}
use Rattle.sizes.proofs.Laws.{size-eq, min-twice, sat-mul, le-mul, and_assoc, or_assoc}

and-true : (a : Bool) → a && true ≡ a
and-true true = refl
and-true false = refl

or-false : (a : Bool) → a || false ≡ a
or-false true = refl
or-false false = refl

or-twice : (a b : Bool) → a || (a || b) ≡ a || b
or-twice true b = refl
or-twice false b = refl

-- ---- the counts

zero-mul-test : (x y : ℕ) → eqb (x * y) 0 ≡ eqb x 0 || eqb y 0
zero-mul-test zero y = ap (λ (n : ℕ). eqb n 0) (zero-mul y)
zero-mul-test (suc x) zero = ap (λ (n : ℕ). eqb n 0) (mul-zero (suc x)) ∙ rw (ne_eqb (suc x) 0 (λ e. omega arith))
zero-mul-test (suc x) (suc y) =
    rw (
      ne_eqb (suc x * suc y) 0 (λ e. omega (arith, le-mul (suc x) (suc y) (omega arith))),
      ne_eqb (suc x) 0 (λ e. omega arith),
      ne_eqb (suc y) 0 (λ e. omega arith),
    )

zero-min-test : (x : ℕ) → eqb (min 257 x) 0 ≡ eqb x 0
zero-min-test zero = refl
zero-min-test (suc x) = rw (ne_eqb (suc x) 0 (λ e. omega arith), ne_eqb (min 257 (suc x)) 0 (λ e. omega arith))

count_left : (x c : ℕ) → min 257 (min 257 (min 257 x) * min 257 c) ≡ min 257 (x * min 257 c)
count_left x c = rw (min-twice 257 x) (rw (min-twice 257 c) at (sat-mul 257 x (min 257 c) (omega arith)))

count-right : (a x : ℕ) → min 257 (min 257 a * min 257 (min 257 x)) ≡ min 257 (min 257 a * x)
count-right a x = rw (min-twice 257 x) (rw (min-twice 257 a) at (sat-mul 257 (min 257 a) x (omega arith)))

-- ---- neighbours; x, y and z say that there is no choice on a side

three-longest : (x y z : Bool) (a b c : ℕ) →
    (if (x || y) || z then 0 else min 1025 (min 1025 (if x || y then 0 else min 1025 (a + b)) + c)) ≡
    (if x || (y || z) then 0 else min 1025 (a + min 1025 (if y || z then 0 else min 1025 (b + c))))
three-longest true y z a b c = refl
three-longest false true z a b c = refl
three-longest false false true a b c = refl
three-longest false false false a b c = omega arith

three-slashed : (x y z s e t f u : Bool) →
    ((x || y) || z) || (((x || y) || (s && (not e || t))) && (not (e && f) || u)) ≡
    (x || (y || z)) || (s && (not e || ((y || z) || (t && (not f || u)))))
three-slashed true y z s e t f u = refl
three-slashed false true z s e t f u = refl
three-slashed false false true s e t f u = refl
three-slashed false false false false e t f u = refl
three-slashed false false false true false t f u = refl
three-slashed false false false true true false f u = refl
three-slashed false false false true true true f u = refl

pub times-assoc : (a b c : Size) → times_of (times_of a b) c ≡ times_of a (times_of b c)
unfolding times_of
times-assoc a b c =
    let x = min 257 a.count in
    let y = min 257 b.count in
    let z = min 257 c.count in
    size-eq
    (count_left (x * y) c.count ∙ ap (min 257) (mul_assoc x y z) ∙ sym (count-right a.count (y * z)))
    (simp (zero-mul-test, zero-min-test) (three-longest (eqb a.count 0) (eqb b.count 0) (eqb c.count 0) (min 1025 a.longest) (min 1025 b.longest) (min 1025 c.longest)))
    (and_assoc a.empty b.empty c.empty)
    (simp (zero-mul-test, zero-min-test) (three-slashed (eqb a.count 0) (eqb b.count 0) (eqb c.count 0) a.slashed a.empty b.slashed b.empty c.slashed))

-- what is put together is cut to its bounds
cut-longest : (z : Bool) (m : ℕ) → (if z then 0 else min 1025 (min 1025 (if z then 0 else min 1025 m) + 0)) ≡ (if z then 0 else min 1025 m)
cut-longest true m = refl
cut-longest false m = omega arith

longest-cut : (z : Bool) (m : ℕ) → (if z then 0 else min 1025 (0 + min 1025 (if z then 0 else min 1025 m))) ≡ (if z then 0 else min 1025 m)
longest-cut true m = refl
longest-cut false m = omega arith

cut-slashed : (z p e : Bool) → z || ((z || p) && (not e || true)) ≡ z || p
cut-slashed true p e = refl
cut-slashed false true true = refl
cut-slashed false true false = refl
cut-slashed false false e = refl

pub times_cut : (a b : Size) → times_of (times_of a b) nil_size ≡ times_of a b
unfolding times_of
times_cut a b =
    let n = min 257 a.count * min 257 b.count in
    size-eq
    (simp (mul-one, min-twice))
    (simp (mul-one, zero-min-test) (cut-longest (eqb n 0) (min 1025 a.longest + min 1025 b.longest)))
    (and_assoc a.empty b.empty true ∙ ap (λ (x : Bool). a.empty && x) (and-true b.empty))
    (simp (mul-one, zero-min-test) (cut-slashed (eqb n 0) (a.slashed && (not a.empty || b.slashed)) (a.empty && b.empty)))

pub nil-times : (a b : Size) → times_of nil_size (times_of a b) ≡ times_of a b
unfolding times_of
nil-times a b =
    let n = min 257 a.count * min 257 b.count in
    size-eq
    (simp (one-mul, min-twice))
    (simp (one-mul, zero-min-test) (longest-cut (eqb n 0) (min 1025 a.longest + min 1025 b.longest)))
    refl
    (simp (one-mul, zero-min-test) (or-twice (eqb n 0) (a.slashed && (not a.empty || b.slashed))))

-- ---- choices of two kinds

plus-count : (x y z : ℕ) → min 257 (min 257 (min 257 (x + y)) + z) ≡ min 257 (x + min 257 (min 257 (y + z)))
plus-count x y z = omega arith

plus-longest : (x y z : ℕ) → x ≤ 1025 → z ≤ 1025 → max (min 1025 (max x y)) z ≡ max x (min 1025 (max y z))
plus-longest x y z h g = omega arith

pub plus_assoc : (a b c : Size) → plus_of (plus_of a b) c ≡ plus_of a (plus_of b c)
unfolding plus_of
plus_assoc a b c =
    size-eq (plus-count (min 257 a.count) (min 257 b.count) (min 257 c.count))
    (plus-longest (min 1025 a.longest) (min 1025 b.longest) (min 1025 c.longest) (omega arith) (omega arith)) (or_assoc a.empty b.empty c.empty) (and_assoc a.slashed b.slashed c.slashed)

pub plus-cut : (a b : Size) → plus_of (plus_of a b) no_size ≡ plus_of a b
unfolding plus_of
plus-cut a b = size-eq (omega arith) (omega arith) (or-false (a.empty || b.empty)) (and-true (a.slashed && b.slashed))

pub none-plus : (a b : Size) → plus_of no_size (plus_of a b) ≡ plus_of a b
unfolding plus_of
none-plus a b = size-eq (omega arith) (omega arith) refl refl
