-- A text read with room for its rules and without, so that no sentence holds of nothing.
use Rattle.std.specs.Prelude.{◌≡◌, refl, [], ◌∷◌, false, None}
use Rattle.scan.specs.Bytes.{bytes}
use Rattle.text.specs.Reading.{Refused}
use Rattle.profile.specs.Profiles.{file_within}
use Rattle.entries.specs.Entries.{Short, Rejected, policy_of, read_of}
use Rattle.asking.specs.Asking.{good, good_target}
use Rattle.laws.specs.Computed.{computed}
use Rattle.laws.specs.Examples.{only, ordered, read_a, rule, write_b}
use Rattle.agreement.specs.Known.{Known}

-- "/p { /a r, /b w, }" has two rules
pub two_rooms : Known (bytes ordered) (policy_of (only "/p" (read_a ∷ write_b ∷ [])))
unfolding computed read_of
two_rooms = record { head = 1256; rooms = 2; told = refl }

-- "refusal 9 at the pattern of the first rule that found no place"
pub one-room : file_within 1 (bytes ordered) ≡ Refused 9 11
unfolding computed
one-room = refl

pub one-room-told : read_of 1256 1 (bytes ordered) ≡ Rejected (record { number = 9; line = 1; column = 12 })
unfolding computed read_of
one-room-told = refl

pub short-head : read_of 1255 2 (bytes ordered) ≡ Short
unfolding read_of
short-head = refl

-- a pattern with a class that does not end; a target without a mode
pub bad-pattern : good [] (rule false "/a[" 1 None) ≡ false
unfolding computed good
bad-pattern = refl

pub bad-target : good_target None (bytes "/b") ≡ false
unfolding good_target bytes
bad-target = refl
