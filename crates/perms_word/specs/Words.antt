-- What a PERMS word says.
use Rattle.std.specs.Prelude.{ℕ, List, [], ◌∷◌, Option, Some, None, Bool, true, false, not, ◌&&◌, ◌||◌, get_or, take, drop, eqb, if◌then◌else◌}
use Prim.Native.Char.{code}
use Rattle.scan.specs.Bytes.{bytes, same, holds, every, run}
use Rattle.perms.specs.Sets.{set_of, perms}
use Rattle.modes.specs.Modes.{modes, mode_in}
use Rattle.perms.specs.declared.Perms.{Perms}
use Rattle.modes.specs.declared.Mode.{Mode}
use Rattle.perms_word.specs.declared.Word.{Word}

-- "The seven permissions are numbered r 1, w 2, a 4, m 8, l 16, k 32, x 64": their letters in this order
unfoldable pub letters : List ℕ
letters = bytes "rwamlkx"

-- the letters that may stand by themselves; an x stands only in a mode
abbrev pub perm_letter : ℕ → Bool
perm_letter b = holds b (take 6 letters)

-- a byte of another kind
abbrev pub other : ℕ → Bool
other b = not (perm_letter b)

-- a word without the letters at its end
unfoldable pub before_letters : List ℕ → List ℕ
before_letters [] = []
before_letters (b ∷ w) = if every perm_letter (b ∷ w) then [] else b ∷ before_letters w

-- a word is letters, a mode or none, and letters: what is left of it without the letters at its front and at its end
abbrev pub mode_part : List ℕ → List ℕ
mode_part w = before_letters (drop (run perm_letter w) w)

-- the permissions that a word carries: those whose letters it holds, every mode ending in x;
-- "a rule with w carries a as well, allowing or denying"
unfoldable pub carried : List ℕ → ℕ
carried w = set_of 7 (λ k. holds (get_or letters k 0) w || (eqb k 2 && holds (code "w") w))

-- what a word says, if it says anything
abbrev pub carries : Perms → Option Mode → Option Word
carries p tr = Some (record { perms = p; transition = tr })

-- by the mode part: none; "bare x only with deny, and there no other mode"; else a mode of the table
abbrev pub named : Perms → Option Mode → Option Word
named p None = None
named p (Some m) = carries p (Some m)

unfoldable pub with_mode : Bool → Perms → List ℕ → Option Word
with_mode deny p [] = carries p None
with_mode true p (b ∷ m) = elim (same (b ∷ m) (bytes "x")) [ true ↦ carries p None | false ↦ None ]
with_mode false p (b ∷ m) = named p (mode_in modes (b ∷ m))

-- "PERMS is one or more of the letters r w a m l k and execute modes, letters repeatable, at most one mode.
-- w with a in one rule is 8. Any other PERMS is 8."
unfoldable pub word_of : Bool → List ℕ → Option Word
word_of deny [] = None
word_of deny (b ∷ w) =
    if holds (code "w") (b ∷ w) && holds (code "a") (b ∷ w) then None else with_mode deny (perms (carried (b ∷ w))) (mode_part (b ∷ w))
