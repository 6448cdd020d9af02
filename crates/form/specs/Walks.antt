-- What walks over parts, items and alternatives tell, where a test is asked at each; what the test gives is told by a relation.
use Rattle.std.specs.Prelude.{◌≡◌, ℕ, ◌<◌, ◌^◌, List, Bool, true}
use Rattle.scan.specs.Bytes.{every, span}
use Rattle.pattern.specs.Pieces.{Byte, Part, Is, parts}
use Rattle.pattern.specs.Items.{Item, Single, items, alternatives}
use Rattle.pattern.specs.Places.{part_at, item_at}

-- every part is of a kind that literals are of, and that the test tells at a place
abbrev pub EveryPart : (ℕ → Bool → Type 0) → List ℕ → Bool → Type 0
EveryPart gives s result =
    (p : Part → Bool) → ((b : ℕ) → p (Is (Byte b)) ≡ true) → ((i : ℕ) (r : Bool) → i < 2 ^ 64 → gives i r → r ≡ p (part_at s i)) → result ≡ every p (parts 0 s)

abbrev pub EveryItem : (ℕ → Bool → Type 0) → List ℕ → Bool → Type 0
EveryItem gives s result =
    (p : Item → Bool) → ((b : ℕ) → p (Single (Is (Byte b))) ≡ true) → ((i : ℕ) (r : Bool) → i < 2 ^ 64 → gives i r → r ≡ p (item_at s i)) → result ≡ every p (items 0 s)

-- every alternative is of a kind that the test tells by the places where it starts and ends
abbrev pub EveryAlternative : (ℕ → ℕ → Bool → Type 0) → List ℕ → (a e : ℕ) → Bool → Type 0
EveryAlternative gives text a e result =
    (p : List ℕ → Bool) → ((i j : ℕ) (r : Bool) → i < 2 ^ 64 → j < 2 ^ 64 → gives i j r → r ≡ p (span text i j)) → result ≡ every p (alternatives (span text a e))
