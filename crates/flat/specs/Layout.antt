-- A table of rule records as plain numbers: a head of 1256 numbers, and twelve numbers for each record.
use Rattle.std.specs.Prelude.{ℕ, zero, suc, ◌+◌, ◌*◌, ◌-◌, ◌/◌, ◌%◌, List, [], ◌∷◌, Bool, not, length, get_or, eqb, if◌then◌else◌, Option, None, Some}
use Rattle.std.specs.Int.Bits.{bit_and}
use Rattle.perms.specs.Sets.{perms}
use Rattle.modes.specs.Modes.{kind_number, fallback_number}
use Rattle.modes.specs.declared.Kind.{Kind}
use Rattle.modes.specs.declared.Kind.TheVariants as kind
use Rattle.modes.specs.declared.Fallback.{Fallback}
use Rattle.modes.specs.declared.Fallback.TheVariants as fallback
use Rattle.modes.specs.declared.Mode.{Mode}
use Rattle.text.specs.Places.{place}
use Rattle.rule.specs.declared.Rule.{Rule}
use Rattle.words.specs.declared.Front.{Front}
use Rattle.entries.specs.declared.Record.{Record}

-- ---- what is no number by itself

-- bit k of a number that is the sum of such bits
abbrev pub bit : (k n : ℕ) → Bool
bit k n = not (eqb (bit_and n k) 0)

abbrev pub number : Bool → ℕ
number b = if b then 1 else 0

-- audit, deny, owner: 1, 2, 4
abbrev pub qualifiers : (audit deny owner : Bool) → ℕ
qualifiers audit deny owner = number audit + 2 * number deny + 4 * number owner

-- 0 where there is no mode; else 1, and 2 where it scrubs, and 4 times its kind's number, and 16 times its fallback's
abbrev pub transition_number : Option Mode → ℕ
transition_number None = 0
transition_number (Some m) = 1 + 2 * number m.scrubs + 4 * kind_number m.kind + 16 * fallback_number m.fallback

abbrev pub kind_in : ℕ → Kind
kind_in n = if bit 4 n then (if bit 8 n then kind.Inherit else kind.Profile) else if bit 8 n then kind.Child else kind.Unconfined

abbrev pub fallback_in : ℕ → Fallback
fallback_in n = if bit 16 n then fallback.Inherit else if bit 32 n then fallback.Unconfined else fallback.Absent

abbrev pub transition_in : ℕ → Option Mode
transition_in n = if bit 1 n then Some (record { kind = kind_in n; fallback = fallback_in n; scrubs = bit 2 n }) else None

-- ---- a record

-- the twelve numbers of a record: its profile, the front's words and masks, the places of pattern and target, what it says
unfoldable pub encoded : Record → List ℕ
encoded r =
    r.rule.profile
    ∷ r.front.first
    ∷ r.front.first_mask
    ∷ r.front.second
    ∷ r.front.second_mask
    ∷ r.rule.pattern.from.0
    ∷ r.rule.pattern.end.0
    ∷ r.rule.target.from.0
    ∷ r.rule.target.end.0
    ∷ qualifiers r.rule.audit r.rule.deny r.rule.owner
    ∷ r.rule.perms.0
    ∷ transition_number r.rule.transition
    ∷ []

-- what stands at a place, whatever it is: the rule, the front, the record of both
unfoldable pub rule_at : (memory : List ℕ) → (at : ℕ) → Rule
rule_at m at =
    record {
      profile = get_or m at 0;
      audit = bit 1 (get_or m (at + 9) 0);
      deny = bit 2 (get_or m (at + 9) 0);
      owner = bit 4 (get_or m (at + 9) 0);
      perms = perms (get_or m (at + 10) 0 % 256);
      transition = transition_in (get_or m (at + 11) 0);
      pattern = record { from = place (get_or m (at + 5) 0); end = place (get_or m (at + 6) 0) };
      target = record { from = place (get_or m (at + 7) 0); end = place (get_or m (at + 8) 0) };
    }

unfoldable pub front_at : (memory : List ℕ) → (at : ℕ) → Front
front_at m at =
    record {
      first = get_or m (at + 1) 0;
      first_mask = get_or m (at + 2) 0;
      second = get_or m (at + 3) 0;
      second_mask = get_or m (at + 4) 0;
    }

abbrev pub record_at : (memory : List ℕ) → (at : ℕ) → Record
record_at m at = record { rule = rule_at m at; front = front_at m at }

-- ---- all records

-- k records from a place on
unfoldable pub records_from : (k : ℕ) → (memory : List ℕ) → (at : ℕ) → List Record
records_from zero m at = []
records_from (suc k) m at = record_at m at ∷ records_from k m (at + 12)

-- for how many records memory of so many numbers has room
abbrev pub room_in : (size : ℕ) → ℕ
room_in size = (size - 1256) / 12

-- all records for which there is room
abbrev pub records_in : (memory : List ℕ) → List Record
records_in m = records_from (room_in (length m)) m 1256
