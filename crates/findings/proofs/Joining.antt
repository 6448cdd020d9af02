-- The findings of one list of rules followed by another.
use Prim.Native.Nat.{ℕ}
use mathlib.Core.Path.{◌≡◌, sym, ap, ap₂, ◌∙◌}
use mathlib.Core.List.{List, ◌++◌}
use mathlib.Core.Bool.{Bool, ◌||◌, ◌&&◌}
use lib.Bits.{bit_or, or_lt}
use Rattle.scan.specs.Bytes.{some}
use Rattle.scan.proofs.Laws.{some-append}
use Rattle.perms.specs.Sets.{has, set_of}
use Rattle.perms.proofs.Laws.{has-or, has-set, set-eq, set-lt}
use Rattle.pattern.specs.Expansions.{Variable}
use Rattle.rule.specs.Rules.{Rule}
use Rattle.family.specs.Members.{those, all}
use Rattle.family.proofs.Lists.{those-append, all_append}
use Rattle.findings.specs.Findings.{Access, Move, allows, audited, denies, exactly, otherwise, applies, bits, move_by, moves, findings, join}

moves-append : (p : Rule → Bool) (xs ys : List Rule) → moves p (xs ++ ys) ≡ moves p xs ++ moves p ys
unfolding moves
moves-append p xs ys =
    let shows : Rule → List Move = λ r. move_by r.transition r.target in
    ap (all shows) (those-append p xs ys) ∙ all_append shows (those p xs) (those p ys)

-- a set of what either holds of
pub set-or : (n : ℕ) (f g : ℕ → Bool) → set_of n (λ k. f k || g k) ≡ bit_or (set_of n f) (set_of n g)
set-or n f g =
    sym (set-eq n (bit_or (set_of n f) (set_of n g)) (λ k. f k || g k) (or_lt n (set_of n f) (set_of n g) (set-lt n f) (set-lt n g))
    (λ k h. has-or (set_of n f) (set_of n g) k ∙ ap₂ ◌||◌ (has-set n f k h) (has-set n g k h)))

set-cong : (n : ℕ) (f g : ℕ → Bool) → ((k : ℕ) → f k ≡ g k) → set_of n f ≡ set_of n g
set-cong n f g h = λ i. set_of n (λ k. h k i)

bits-append : (p : Rule → Bool) (xs ys : List Rule) → bits p (xs ++ ys) ≡ bit_or (bits p xs) (bits p ys)
unfolding bits
bits-append p xs ys =
    let carry : ℕ → Rule → Bool = λ k r. p r && has r.perms.0 k in
    set-cong 7 (λ k. some (carry k) (xs ++ ys)) (λ k. some (carry k) xs || some (carry k) ys) (λ k. some-append (carry k) xs ys)
    ∙ set-or 7 (λ k. some (carry k) xs) (λ k. some (carry k) ys)

-- "the findings of the one list followed by the other are both lists' findings joined": of what matches, whatever the part
part-append : {A : Type 0} (part : List Rule → A) (put : A → A → A) → ((xs ys : List Rule) → part (xs ++ ys) ≡ put (part xs) (part ys))
    → (p : Rule → Bool) (xs ys : List Rule) → part (those p (xs ++ ys)) ≡ put (part (those p xs)) (part (those p ys))
part-append part put law p xs ys = ap part (those-append p xs ys) ∙ law (those p xs) (those p ys)

module _ (vs : List Variable) (q : Access) (xs ys : List Rule) where
  bits-joined : (p : Rule → Bool) → bits p (those (applies vs q) (xs ++ ys)) ≡ bit_or (bits p (those (applies vs q) xs)) (bits p (those (applies vs q) ys))
  bits-joined p = part-append (bits p) bit_or (bits-append p) (applies vs q) xs ys

  moves-joined : (p : Rule → Bool) → moves p (those (applies vs q) (xs ++ ys)) ≡ moves p (those (applies vs q) xs) ++ moves p (those (applies vs q) ys)
  moves-joined p = part-append (moves p) ◌++◌ (moves-append p) (applies vs q) xs ys

  pub findings-append : findings vs q (xs ++ ys) ≡ join (findings vs q xs) (findings vs q ys)
  unfolding findings join
  findings-append = λ i. record {
    allowed = bits-joined allows i;
    allowed_audit = bits-joined (audited allows) i;
    denied = bits-joined denies i;
    denied_audit = bits-joined (audited denies) i;
    exact = moves-joined (exactly vs q) i;
    others = moves-joined (otherwise vs q) i;
  }
