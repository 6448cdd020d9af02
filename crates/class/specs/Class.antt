-- Classes of a pattern, by what stands in their brackets.
use Rattle.std.specs.Prelude.{ℕ, zero, suc, List, [], ◌∷◌, Bool, true, false, not, ◌||◌, ◌&&◌, length, get_or, eqb, leb, ltb, if◌then◌else◌}
use Prim.Native.Char.{code}
use Rattle.scan.specs.Bytes.{begins, between, digit, every, letter, some}

-- the ranges of a class's members after the first k bytes; a byte by itself is a range too
pub record Range : Type 0 where
  pub low : ℕ
  pub high : ℕ

unfoldable pub ranges : ℕ → List ℕ → List Range
ranges k [] = []
ranges (suc k) (b ∷ s) = ranges k s
ranges zero (b ∷ s) =
    elim (begins (code "-") s && ltb 1 (length s)) [
      | true ↦ record { low = b; high = get_or s 1 0 } ∷ ranges 2 s
      | false ↦ record { low = b; high = b } ∷ ranges 0 s
    ]

abbrev pub negated : List ℕ → Bool
negated s = begins (code "^") s

abbrev pub members : List ℕ → List Range
members s = if negated s then ranges 1 s else ranges 0 s

-- "Class members are letters, digits, ., _ and ranges of two of these, the low end at most the high; at least one."
abbrev pub member_byte : ℕ → Bool
member_byte b = letter b || digit b || eqb b (code ".") || eqb b (code "_")

abbrev pub good_range : Range → Bool
good_range r = member_byte r.low && member_byte r.high && leb r.low r.high

unfoldable pub good_class : List ℕ → Bool
good_class s = some (λ (r : Range). true) (members s) && every good_range (members s)

-- "holding every byte between but /"
unfoldable pub listed : List ℕ → ℕ → Bool
listed s b = some (λ (r : Range). between r.low r.high b) (members s) && not (eqb b (code "/"))

-- "[ab] one listed byte; [^a-c] one byte not listed, / counting as not listed"
unfoldable pub in_class : List ℕ → ℕ → Bool
in_class s b = if negated s then not (listed s b) else listed s b
