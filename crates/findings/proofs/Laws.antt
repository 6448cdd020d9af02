-- One transition more in a set of transitions.
use Rattle.std.proofs.Common.{Option, None, Some}
use Rattle.std.specs.Prelude.{if◌then◌else◌}
use Prim.Native.Nat.{ℕ}
use mathlib.Core.Path.{◌≡◌, refl, sym, ap, ◌∙◌}
use mathlib.Core.List.{List, [], ◌∷◌, ◌++◌, append-nil}
use mathlib.Core.Bool.{Bool, true, false, ◌&&◌, and-true, and_assoc}
use Rattle.scan.specs.Bytes.{every}
use Rattle.modes.specs.declared.Mode.{Mode}
use Rattle.family.specs.Members.{Choice, Single, Several, choice}
use Rattle.findings.specs.Findings.{Move, move_by, same_move}
use Rattle.findings.specs.Weighed.{with_move, with_transition}

every-snoc : {A : Type 0} (p : A → Bool) (xs : List A) (x : A) → every p (xs ++ (x ∷ [])) ≡ (every p xs && p x)
unfolding every
every-snoc p [] x = and-true (p x)
every-snoc p (y ∷ xs) x = ap (λ (b : Bool). p y && b) (every-snoc p xs x) ∙ sym (and_assoc (p y) (every p xs) (p x))

choice-snoc : (ms : List Move) (m : Move) → choice same_move (ms ++ (m ∷ [])) ≡ with_move (choice same_move ms) m
unfolding choice every
choice-snoc [] m = refl
choice-snoc (k ∷ ms) m = ap (λ (b : Bool). if b then Single k else Several) (every-snoc (same_move k) ms m) ∙ go (every (same_move k) ms)
  where
    go : (b : Bool) → ◌≡◌ {A = Choice Move} (if b && same_move k m then Single k else Several) (with_move (if b then Single k else Several) m)
    go true = refl
    go false = refl

pub choice-by : (ms : List Move) (t : Option Mode) (target : List ℕ) → choice same_move (ms ++ move_by t target) ≡ with_transition (choice same_move ms) t target
choice-by ms None target = ap (choice same_move) (append-nil ms)
choice-by ms (Some m) target = choice-snoc ms (record { mode = m; target = target })
