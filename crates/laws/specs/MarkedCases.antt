-- The ten marked cases of text T, of the definitions, by one statement over one table.
use Rattle.std.specs.Prelude.{ℕ, ◌≡◌, refl, List, [], ◌∷◌, map, Bool, true, false, Ok}
use Prim.Native.String.{String}
use Rattle.scan.specs.Bytes.{bytes}
use Rattle.perms.specs.Sets.{perms}
use Rattle.modes.specs.declared.Kind.TheVariants as kind
use Rattle.modes.specs.declared.Fallback.TheVariants as fallback
use Rattle.modes.specs.declared.Execute.{Execute}
use Rattle.modes.specs.declared.Execute.TheVariants.{NotAsked, ByMode}
use Rattle.answer.specs.Answers.{target_of}
use Rattle.decide.specs.Decide.{answer_of}
use Rattle.answer.specs.declared.Answer.{Answer}
use Rattle.laws.specs.Computed.{computed}

-- "Text T"
abbrev pub text_t : String
text_t = "@{RUN}=/runs/a/ /runs/b/\nprofile step {\n  @{RUN}in/* r,\n  owner @{RUN}out/** rw,\n  audit deny /runs/*/out/lock w,\n  /bin/cat ix,\n  /bin/* px -> tool,\n}\n"

pub record Case : Type 0 where
  pub path : String
  pub asked : ℕ
  pub owner : Bool
  pub granted : ℕ
  pub recorded : ℕ
  pub execute : Execute
  pub target : String

abbrev case : String → ℕ → Bool → ℕ → ℕ → Execute → String → Case
case path asked owner granted recorded execute target =
    record { path = path; asked = asked; owner = owner; granted = granted; recorded = recorded; execute = execute; target = target }

abbrev ix : Execute
ix = ByMode (record { kind = kind.Inherit; fallback = fallback.Absent; scrubs = false })

abbrev px : Execute
px = ByMode (record { kind = kind.Profile; fallback = fallback.Absent; scrubs = false })

-- "Marked cases, profile step (path, asked, owner: granted, recorded, execute)"
abbrev pub marked : List Case
marked =
    case "/runs/a/in/x" 1 false 1 0 NotAsked ""
    ∷ case "/runs/c/in/x" 1 false 0 1 NotAsked ""
    ∷ case "/runs/a/in/d/x" 1 false 0 1 NotAsked ""
    ∷ case "/runs/b/out/d/y" 3 true 3 0 NotAsked ""
    ∷ case "/runs/b/out/d/y" 3 false 0 3 NotAsked ""
    ∷ case "/runs/a/out/lock" 3 true 1 2 NotAsked ""
    ∷ case "/runs/b/out/y" 4 true 4 0 NotAsked ""
    ∷ case "/bin/cat" 64 false 64 0 ix ""
    ∷ case "/bin/ls" 64 false 64 0 px "tool"
    ∷ case "/bin/cat" 65 false 64 1 ix ""
    ∷ []

-- the answer that the definitions give to a case, and the one that the paper gives
abbrev pub given : Case → Answer
given c = answer_of (bytes text_t) (bytes "step") (bytes c.path) c.asked c.owner

abbrev pub stated : Case → Answer
stated c =
    record {
      verdict = Ok tt;
      granted = perms c.granted;
      recorded = perms c.recorded;
      execute = c.execute;
      target = target_of (bytes c.target);
    }

pub marked-cases : map given marked ≡ map stated marked
unfolding computed
marked-cases = refl
