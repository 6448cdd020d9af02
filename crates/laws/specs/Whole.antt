-- What every accepted rule keeps: an allow rule carries x exactly when it names a mode, and a deny rule names none.
use Rattle.std.specs.Prelude.{Bool, not, ◌||◌, ◌&&◌, Option, None, Some}
use Rattle.scan.specs.Bytes.{every}
use Rattle.perms.specs.Sets.{has}
use Rattle.perms.specs.declared.Perms.{Perms}
use Rattle.modes.specs.declared.Mode.{Mode}
use Rattle.rule.specs.Rules.{Rule}
use Rattle.profile.specs.Profiles.{Profile, File}
use Rattle.answer.specs.Answers.{x}

-- an allow rule carries x exactly when it names a mode: "every mode ending in x"; "bare x only with deny, and there no other mode"
abbrev pub fits : (deny : Bool) → Perms → Option Mode → Bool
fits deny p None = deny || not (has p.0 x)
fits deny p (Some m) = not deny && has p.0 x

abbrev pub whole : Rule → Bool
whole r = fits r.deny r.perms r.transition

-- all rules of a file
abbrev pub whole_file : File → Bool
whole_file f = every (λ (p : Profile). every whole p.rules) f.profiles
