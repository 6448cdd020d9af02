-- The first 16 bytes of a path and of a pattern's front as two words, which say of most paths that the front does not begin them.
use Rattle.std.specs.Prelude.{ℕ, zero, suc, ◌+◌, ◌*◌, ◌-◌, ◌^◌, min, Bool, not, ◌||◌, List, [], ◌∷◌, length, drop, eqb}
use Rattle.std.specs.Int.Bits.{bit_and}
use Rattle.front.specs.Front.{front}
use Rattle.words.specs.declared.Words.{Words}
use Rattle.words.specs.declared.Front.{Front}

-- the first k bytes as a number, lowest byte first, zero beyond the end
unfoldable pub word_of : (k : ℕ) → List ℕ → ℕ
word_of zero s = 0
word_of (suc k) [] = 0
word_of (suc k) (b ∷ s) = b + 256 * word_of k s

-- all bits of the first n of a word's eight bytes
unfoldable pub mask_of : (n : ℕ) → ℕ
mask_of n = 2 ^ (8 * min 8 n) - 1

-- the first eight bytes of a path, and the eight behind them
unfoldable pub words_of : List ℕ → Words
words_of path = record { first = word_of 8 path; second = word_of 8 (drop 8 path) }

-- the same of some bytes, with the masks of those that there are, and each word cut to its mask
unfoldable pub masked : List ℕ → Front
masked s =
    record {
      first = bit_and (word_of 8 s) (mask_of (length s));
      second = bit_and (word_of 8 (drop 8 s)) (mask_of (length (drop 8 s)));
      first_mask = mask_of (length s);
      second_mask = mask_of (length (drop 8 s));
    }

-- a pattern: the words and masks of its front
abbrev pub front_of : (pattern : List ℕ) → Front
front_of pattern = masked (front pattern)

-- under the masks the path's first or second word is another
unfoldable pub is_out : Words → Front → Bool
is_out w f = not (eqb (bit_and w.first f.first_mask) f.first) || not (eqb (bit_and w.second f.second_mask) f.second)
