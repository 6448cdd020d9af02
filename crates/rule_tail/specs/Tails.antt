-- What follows the pattern of a rule: "PERMS [-> TARGET] ,"
use Rattle.std.specs.Prelude.{ℕ, ◌+◌, List, [], Option, Some, None, Bool, true, false, not, ◌||◌, length, ltb}
use Rattle.scan.specs.Bytes.{bytes}
use Rattle.perms.specs.declared.Perms.{Perms}
use Rattle.modes.specs.declared.Kind.{Kind}
use Rattle.modes.specs.declared.Kind.TheVariants as kind
use Rattle.modes.specs.declared.Mode.{Mode}
use Rattle.perms_word.specs.declared.Word.{Word}
use Rattle.perms_word.specs.Words.{word_of}
use Rattle.text.specs.Reading.{Reading, Read, Refused, ◌>>=◌, refuse_if}
use Rattle.blanks.specs.Blanks.{standing, stands_at}
use Rattle.tokens.specs.Tokens.{Token, comma, is_word, token_at, wanted}
use Rattle.names.specs.Names.{name_form}

-- "-> only with p and c modes"
abbrev pub leads_to_profile : Kind → Bool
leads_to_profile kind.Unconfined = false
leads_to_profile kind.Profile = true
leads_to_profile kind.Child = true
leads_to_profile kind.Inherit = false

abbrev pub takes_target : Option Mode → Bool
takes_target None = false
takes_target (Some m) = leads_to_profile m.kind

pub record Permissions : Type 0 where
  pub perms : Perms
  pub transition : Option Mode
  pub next : ℕ

-- "Any other PERMS is 8."
abbrev pub carried_by : Token → Option Word → Reading Permissions
carried_by t (Some w) = Read (record { perms = w.perms; transition = w.transition; next = t.next })
carried_by t None = Refused 8 t.start

-- "PERMS end at a blank or comma. Missing or quoted PERMS is 4"
unfoldable pub perms_at : (deny : Bool) → List ℕ → ℕ → Reading Permissions
perms_at deny s at = do
  t ← wanted (token_at comma s at)
  _ ← refuse_if (t.quoted || is_word t (bytes ",")) 4 t.start
  carried_by t (word_of deny t.content)

pub record Target : Type 0 where
  pub target : List ℕ
  pub next : ℕ

-- the target where a -> stands, which "needs no blank after it"; "TARGET has the form of a name", "over 255 bytes are 9"
unfoldable pub target_at : Option Mode → List ℕ → ℕ → Reading Target
target_at tr s at =
    elim (stands_at (bytes "->") s at) [
      | false ↦ Read (record { target = []; next = at })
      | true ↦ do
        _ ← refuse_if (not (takes_target tr)) 8 (standing s at)
        t ← wanted (token_at comma s (standing s at + 2))
        _ ← refuse_if (not (name_form t.quoted t.content)) 4 t.start
        _ ← refuse_if (ltb 255 (length t.content)) 9 t.start
        Read (record { target = t.content; next = t.next })
    ]

-- the comma that ends a rule, and where reading goes on
unfoldable pub comma_at : List ℕ → ℕ → Reading ℕ
comma_at s at = do
  t ← wanted (token_at comma s at)
  _ ← refuse_if (not (is_word t (bytes ","))) 4 t.start
  Read t.next
