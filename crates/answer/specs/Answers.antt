-- The answer that findings give, and refusals.
use Rattle.std.specs.Prelude.{ℕ, ◌-◌, min, List, [], ◌++◌, Bool, true, false, not, ◌||◌, ◌&&◌, length, replicate, take, eqb, if◌then◌else◌, Ok, Err}
use Rattle.perms.specs.Sets.{has, set_of, perms}
use Rattle.modes.specs.declared.Execute.{Execute}
use Rattle.modes.specs.declared.Execute.TheVariants.{NotAsked, Denied, Conflict, ByMode}
use Rattle.family.specs.Members.{preferred, Choice, None, Single, Several, choice}
use Rattle.findings.specs.Findings.{Move, Findings, same_move}
use Rattle.text.specs.Places.{span_of}
use Rattle.text.specs.declared.Refusal.{Refusal}
use Rattle.answer.specs.declared.Answer.{Answer}
use Rattle.answer.specs.declared.Brief.{Brief}
use Rattle.answer.specs.declared.Target.{Target}

-- ---- execute

-- "None, or x denied: denied. One: that one. More: conflict. Denial comes before conflict."
abbrev pub chosen : (denied : Bool) → Choice Move → Execute
chosen true c = Denied
chosen false None = Denied
chosen false (Single m) = ByMode m.mode
chosen false Several = Conflict

-- permission 6 is x
abbrev pub x : ℕ
x = 6

-- "take the exact transitions if any, else the others"
unfoldable pub move_of : Findings → Choice Move
move_of f = choice same_move (preferred f.exact f.others)

-- what x is answered, by the denied bits and the transition taken
abbrev pub execute_by : (asked denied : ℕ) → Choice Move → Execute
execute_by asked denied c = if has asked x then chosen (has denied x) c else NotAsked

unfoldable pub execute_of : Findings → (asked : ℕ) → Execute
execute_of f asked = execute_by asked f.denied (move_of f)

-- ---- granted, recorded, target

abbrev pub is_mode : Execute → Bool
is_mode NotAsked = false
is_mode Denied = false
is_mode Conflict = false
is_mode (ByMode m) = true

-- "asked bits that are allowed and not denied; x only with a single transition"
abbrev pub grants_by : (asked allowed denied : ℕ) → Execute → ℕ → Bool
grants_by asked allowed denied e k = has asked k && has allowed k && not (has denied k) && (not (eqb k x) || is_mode e)

unfoldable pub grants : Findings → (asked : ℕ) → ℕ → Bool
grants f asked k = grants_by asked f.allowed f.denied (execute_of f asked) k

-- "granted bits with an audit allow; refused bits not denied by a rule, conflict included; denied bits with an audit deny"
abbrev pub records_by : (asked : ℕ) → (granted : Bool) → (allowed_audit denied denied_audit : ℕ) → ℕ → Bool
records_by asked granted allowed_audit denied denied_audit k =
    has asked k && (if granted then has allowed_audit k else if has denied k then has denied_audit k else true)

unfoldable pub records : Findings → (asked : ℕ) → ℕ → Bool
records f asked k = records_by asked (grants f asked k) f.allowed_audit f.denied f.denied_audit k

-- "Target: 255 bytes and a length, zero beyond it and zero when absent."; no target that was read is longer
abbrev pub target_of : List ℕ → Target
target_of s = record { bytes = take 255 s ++ replicate (255 - length s) 0; len = min 255 (length s) }

-- a target is named only with a mode
abbrev pub named_by : Execute → Choice Move → List ℕ
named_by NotAsked c = []
named_by Denied c = []
named_by Conflict c = []
named_by (ByMode m) None = []
named_by (ByMode m) (Single t) = t.target
named_by (ByMode m) Several = []

-- "findings and asked bits alone fix the whole answer"
unfoldable pub answer_from : Findings → (asked : ℕ) → Answer
answer_from f asked =
    record {
      verdict = Ok tt;
      granted = perms (set_of 7 (grants f asked));
      recorded = perms (set_of 7 (records f asked));
      execute = execute_of f asked;
      target = target_of (named_by (execute_of f asked) (move_of f));
    }

-- ---- refusals

-- "Each returns granted 0, recorded 0, not asked, empty target."
abbrev pub refusal : Refusal → Answer
refusal r =
    record {
      verdict = Err r;
      granted = perms 0;
      recorded = perms 0;
      execute = NotAsked;
      target = target_of [];
    }

-- ---- the whole of an answer whose target is told by its place

unfoldable pub whole_of : (text : List ℕ) → Brief → Answer
whole_of s b =
    record {
      verdict = b.verdict;
      granted = b.granted;
      recorded = b.recorded;
      execute = b.execute;
      target = target_of (span_of s b.target);
    }
