-- Lists as sets: the elements of a kind, what they show, the same members, and whether there is one.
use Rattle.std.specs.Prelude.{◌≡◌, List, [], ◌∷◌, ◌++◌, Bool, true, false, if◌then◌else◌}
use Rattle.scan.specs.Bytes.{every, some}

-- the elements of a list of which p holds
unfoldable pub those : {R : Type 0} → (R → Bool) → List R → List R
those p [] = []
those p (r ∷ rs) = elim (p r) [ true ↦ r ∷ those p rs | false ↦ those p rs ]

-- all that the elements of a list show
unfoldable pub all : {R M : Type 0} → (R → List M) → List R → List M
all f [] = []
all f (r ∷ rs) = f r ++ all f rs

-- two lists "have the same members"
abbrev pub SameMembers : {M : Type 0} → (M → M → Bool) → List M → List M → Type 0
SameMembers {M} same ms ns = (m : M) → some (same m) ms ≡ some (same m) ns

-- "take the exact transitions if any, else the others"
abbrev pub preferred : {M : Type 0} → (exact others : List M) → List M
preferred [] others = others
preferred (m ∷ ms) others = m ∷ ms

-- the members of a set: none, one, or more
pub data Choice (M : Type 0) : Type 0 where
  None : Choice M
  Single : M → Choice M
  Several : Choice M

-- which of them; two elements are one member where `same` says so
unfoldable pub choice : {M : Type 0} → (M → M → Bool) → List M → Choice M
choice same [] = None
choice same (m ∷ ms) = if every (same m) ms then Single m else Several

-- there is one; there are more
abbrev pub is_single : {M : Type 0} → Choice M → Bool
is_single None = false
is_single (Single m) = true
is_single Several = false

abbrev pub is_several : {M : Type 0} → Choice M → Bool
is_several None = false
is_several (Single m) = false
is_several Several = true
