-- Findings as they are gathered rule by rule: of a set of transitions only whether it has no member, one or more.
use Rattle.std.specs.Prelude.{ℕ, ◌≡◌, List, Bool, not, if◌then◌else◌, Option, None, Some}
use Rattle.std.specs.Int.Bits.{bit_or}
use Rattle.perms.specs.declared.Perms.{Perms}
use Rattle.modes.specs.declared.Mode.{Mode}
use Rattle.rule.specs.Rules.{Rule}
use Rattle.family.specs.Members.{Choice, None, Single, Several, choice}
use Rattle.text.specs.Places.{span_of}
use Rattle.findings.specs.Findings.{Move, Findings, same_move}
use Rattle.findings.specs.declared as code
use Rattle.findings.specs.declared.Choice.TheVariants as choices

pub record Weighed : Type 0 where
  pub allowed : ℕ
  pub allowed_audit : ℕ
  pub denied : ℕ
  pub denied_audit : ℕ
  pub exact : Choice Move
  pub others : Choice Move

unfoldable pub weighed : Findings → Weighed
weighed f =
    record {
      allowed = f.allowed;
      allowed_audit = f.allowed_audit;
      denied = f.denied;
      denied_audit = f.denied_audit;
      exact = choice same_move f.exact;
      others = choice same_move f.others;
    }

-- what no rule gives
abbrev pub nothing : Weighed
nothing = record { allowed = 0; allowed_audit = 0; denied = 0; denied_audit = 0; exact = None; others = None }

-- ---- one rule more

-- one member more
abbrev pub with_move : Choice Move → Move → Choice Move
with_move None m = Single m
with_move (Single k) m = if same_move k m then Single k else Several
with_move Several m = Several

abbrev pub with_transition : Choice Move → Option Mode → (target : List ℕ) → Choice Move
with_transition c None t = c
with_transition c (Some m) t = with_move c (record { mode = m; target = t })

-- a matching allow rule more, which matches exactly or otherwise
unfoldable pub allowing : (exact : Bool) → Rule → Weighed → Weighed
allowing exact r w =
    record {
      allowed = bit_or w.allowed r.perms.0;
      allowed_audit = if r.audit then bit_or w.allowed_audit r.perms.0 else w.allowed_audit;
      denied = w.denied;
      denied_audit = w.denied_audit;
      exact = if exact then with_transition w.exact r.transition r.target else w.exact;
      others = if not exact then with_transition w.others r.transition r.target else w.others;
    }

-- a matching deny rule more
unfoldable pub denying : Rule → Weighed → Weighed
denying r w =
    record {
      allowed = w.allowed;
      allowed_audit = w.allowed_audit;
      denied = bit_or w.denied r.perms.0;
      denied_audit = if r.audit then bit_or w.denied_audit r.perms.0 else w.denied_audit;
      exact = w.exact;
      others = w.others;
    }

-- ---- what the code's values mean over the text

unfoldable pub seen_choice : List ℕ → code.Choice.Choice → Choice Move
seen_choice s choices.None = None
seen_choice s (choices.Single m t) = Single (record { mode = m; target = span_of s t })
seen_choice s choices.Several = Several

unfoldable pub seen_findings : List ℕ → code.Findings.Findings → Weighed
seen_findings s f =
    record {
      allowed = f.allowed.all.0;
      allowed_audit = f.allowed.audited.0;
      denied = f.denied.all.0;
      denied_audit = f.denied.audited.0;
      exact = seen_choice s f.exact;
      others = seen_choice s f.others;
    }

-- what is carried with a rule more
pub record Carries (before : code.Carried.Carried) (audit : Bool) (perms : Perms) (after : code.Carried.Carried) : Type 0 where
  pub all : after.all.0 ≡ bit_or before.all.0 perms.0
  pub audited : after.audited.0 ≡ (if audit then bit_or before.audited.0 perms.0 else before.audited.0)
