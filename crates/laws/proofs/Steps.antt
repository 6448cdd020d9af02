-- Reading step by step: what was read was not refused at any step.
use Prim.Native.Nat.{ℕ}
use mathlib.Core.Path.{◌≡◌, refl}
use mathlib.Core.Bool.{Bool, true, false}
use native.Mathlib.Omega.{arith}
use Rattle.text.specs.Reading.{Reading, Read, Refused, ◌>>=◌, refuse_if}

pub never : {A : Type 0} {n p : ℕ} {a : A} → Refused n p ≡ Read a → ⊥
never e = let z : ◌≡◌ {A = ℕ} 0 1 = cc in omega arith

pub inner : {A : Type 0} {a b : A} → Read a ≡ Read b → b ≡ a
inner e = cc

-- the first step read something, and the rest read on from there
pub step : {A B : Type 0} (x : Reading A) (k : A → Reading B) (b : B) → (x >>= k) ≡ Read b → (a : A) × (x ≡ Read a) × (k a ≡ Read b)
step (Read a) k b e = (a, refl, e)
step (Refused n p) k b e = absurd (never e)

-- the test did not refuse
pub unless : {B : Type 0} (c : Bool) (n p : ℕ) (x : Reading B) (b : B) → (refuse_if c n p >>= λ _. x) ≡ Read b → x ≡ Read b
unless true n p x b e = absurd (never e)
unless false n p x b e = e

pub passed : {B : Type 0} (c : Bool) (n p : ℕ) (x : Reading B) (b : B) → (refuse_if c n p >>= λ _. x) ≡ Read b → c ≡ false
passed true n p x b e = absurd (never e)
passed false n p x b e = refl
