-- A permission set is a number: permission k of the paper's list is in it when its binary digit k is 1.
use Rattle.std.specs.Prelude.{ℕ, zero, suc, ◌+◌, ◌*◌, ◌/◌, ◌%◌, ◌^◌, Bool, true, false, not, ◌&&◌, ◌||◌, eqb}
use Rattle.perms.specs.declared.Perms.{Perms}

-- permission k is in the set n
unfoldable pub has : ℕ → ℕ → Bool
has n k = eqb (n / 2 ^ k % 2) 1

abbrev pub digit : Bool → ℕ
digit true = 1
digit false = 0

-- the set of those permissions below n of which f holds: "a set is their sum"
abbrev pub set_of : ℕ → (ℕ → Bool) → ℕ
set_of zero f = 0
set_of (suc n) f = digit (f 0) + 2 * set_of n (λ k. f (suc k))

-- the set as the code holds it
abbrev pub perms : ℕ → Perms
perms n = record { 0 = n }

-- the permissions of either set; a number of the code has eight digits
abbrev pub unite : Perms → Perms → Perms
unite a b = perms (set_of 8 (λ k. has a.0 k || has b.0 k))

-- the permissions of the first set that the second lacks
abbrev pub without : Perms → Perms → Perms
without a b = perms (set_of 8 (λ k. has a.0 k && not (has b.0 k)))

-- every permission of the first set is in the second: it has none that the second lacks
abbrev pub within : Perms → Perms → Bool
within a b = eqb (without a b).0 0
