-- A name after the word profile, and names in the table of profiles.
use Prim.Native.Nat.{ℕ, zero, suc, ◌+◌, ◌*◌, ◌<◌}
use mathlib.Core.Path.{◌≡◌, refl}
use mathlib.Core.List.{List}
use mathlib.Core.Bool.{Bool, true, false, ◌||◌}
use lib.Dec.{eqb}
use borrow.Author.Tests.{eqb-true, eqb-false}
use native.Mathlib.Numerals.{add-one}
use Rattle.scan.proofs.Bools.{or_right}
use native.Mathlib.Omega.{arith}
use Rattle.scan.specs.Bytes.{bytes, same, some}
use Rattle.tokens.specs.Tokens.{no_stop, token_at}
use Rattle.pattern.specs.Table.{bytes_at}
use Rattle.rule.specs.Rules.{if_word}
use Rattle.heads.specs.Heads.{name_at}
use Rattle.heads.specs.Places.{name_from, names_of}

-- a name after the word profile
pub name-word : (s : List ℕ) (at n : ℕ) → if_word (bytes "profile") at (token_at no_stop s at) ≡ record { found = true; next = n } → name_at s at ≡ name_from false s n
unfolding name_at name_from
name-word s at n e = rw (e, name_at) (rw e)

-- the profile looked at has the name, or has not
module _ (text t name : List ℕ) where
  pub names-hit : (i m : ℕ) → i < m → same name (bytes_at text t (4 * i)) ≡ true → some (same name) (names_of text t m) ≡ true
  unfolding some names_of
  names-hit i zero h e = absurd (omega arith)
  names-hit i (suc m) h e = go (eqb i m) refl (λ k. names-hit i m k e)
    where
      go : (b : Bool) → eqb i m ≡ b → (i < m → some (same name) (names_of text t m) ≡ true) → (same name (bytes_at text t (4 * m)) || some (same name) (names_of text t m)) ≡ true
      go true q f = let k : i ≡ m = eqb-true i m q in rw (rw k at e)
      go false q f = or_right _ _ (f (omega (arith, eqb-false i m q)))

  pub names-miss : (i : ℕ) → same name (bytes_at text t (4 * i)) ≡ false → some (same name) (names_of text t (i + 1)) ≡ some (same name) (names_of text t i)
  unfolding some names_of
  names-miss i e = rw (add-one, e, names_of, some)
