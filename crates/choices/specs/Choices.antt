-- The first choices of a pattern, held to a path: whether a value or alternative may begin the path.
use Rattle.std.specs.Prelude.{ℕ, zero, suc, List, [], ◌∷◌, Bool, true, false, ◌&&◌, length, drop}
use Rattle.scan.specs.Bytes.{same, some}
use Rattle.pattern.specs.Pieces.{Is, Use, Bad}
use Rattle.pattern.specs.Items.{Item, Single, Among}
use Rattle.pattern.specs.Places.{item_at, item_end}
use Rattle.pattern.specs.Expansions.{Variable}
use Rattle.front.specs.Front.{beginning, front_after, slash_after}

-- the values of a name; none where it is not set
unfoldable pub values_in : List Variable → (name : List ℕ) → List (List ℕ)
values_in [] n = []
values_in (v ∷ vs) n = elim (same v.name n) [ true ↦ v.values | false ↦ values_in vs n ]

-- the front of a value or pattern begins the path, and what is left of both goes on
unfoldable pub leads : (goes : (slash : Bool) → (left path : List ℕ) → Bool) → (s : List ℕ) → (slash : Bool) → (path : List ℕ) → Bool
leads goes s slash path =
    beginning (front_after slash s) path
    && goes (slash_after slash (front_after slash s)) (drop (length (front_after slash s)) s) (drop (length (front_after slash s)) path)

-- what is left of a value may match anything; where nothing is left, what follows the value goes on
abbrev pub or_follows : (goes : (slash : Bool) → (path : List ℕ) → Bool) → (slash : Bool) → (left path : List ℕ) → Bool
or_follows goes slash [] path = goes slash path
or_follows goes slash (b ∷ s) path = true

-- a value leads on
abbrev pub leads_on : (goes : (slash : Bool) → (path : List ℕ) → Bool) → (slash : Bool) → (path value : List ℕ) → Bool
leads_on goes slash path v = leads (or_follows goes) v slash path

-- one of several values or alternatives does
abbrev pub some_leads : (goes : (slash : Bool) → (path : List ℕ) → Bool) → (slash : Bool) → (path : List ℕ) → List (List ℕ) → Bool
some_leads goes slash path vs = some (leads_on goes slash path) vs

-- a variable, by its values; an alternation, by its alternatives; every other item may
abbrev pub opens_item : (goes : (slash : Bool) → (path : List ℕ) → Bool) → List Variable → (slash : Bool) → (path : List ℕ) → Item → Bool
opens_item goes vs slash path (Single (Is p)) = true
opens_item goes vs slash path (Single (Use n)) = some_leads goes slash path (values_in vs n)
opens_item goes vs slash path (Single Bad) = true
opens_item goes vs slash path (Among ss) = some_leads goes slash path ss

-- the first item of a pattern may begin the path; what follows a value of literals only is held to it too, through as many choices as the depth
unfoldable pub opens : (depth : ℕ) → List Variable → (slash : Bool) → (pattern path : List ℕ) → Bool
opens zero vs slash s path = true
opens (suc k) vs slash s path = opens_item (leads (opens k vs) (drop (item_end s 0) s)) vs slash path (item_at s 0)
