-- What becomes of a buffer of codes.
use Rattle.std.specs.Prelude.{ℕ, ◌≡◌, List, Bool, length, take, drop}
use Rattle.pattern.specs.Codes.{joined_codes_after}

-- the first codes of a buffer have become r, with neighbouring slashes joined, and with a slash before them, or not; those behind them stay
pub record Joins (slash : Bool) (count : ℕ) (before after : List ℕ) (r : ℕ) : Type 0 where
  pub size : r ≡ length (joined_codes_after slash (take count before))
  pub kept : take r after ≡ joined_codes_after slash (take count before)
  pub behind : drop count after ≡ drop count before
  pub room : length after ≡ length before
