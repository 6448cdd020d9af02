-- The parts of an answer, as the code makes them from sets of permissions and from choices.
use Rattle.std.specs.Prelude.{ℕ, ◌<◌, ◌≡◌, List, [], Bool, true, false, not, ◌||◌, ◌&&◌, eqb, Ok}
use Rattle.perms.specs.Sets.{has, set_of, perms}
use Rattle.modes.specs.declared.Execute.{Execute}
use Rattle.family.specs.Members.{Choice, None, Single, Several}
use Rattle.findings.specs.Findings.{Move}
use Rattle.findings.specs.Weighed.{Weighed}
use Rattle.answer.specs.Answers.{execute_by, grants_by, named_by, records_by, target_of, x}
use Rattle.answer.specs.declared.Answer.{Answer}

-- the first choice unless it has no member, else the second
abbrev pub first_of : Choice Move → Choice Move → Choice Move
first_of None c = c
first_of (Single m) c = Single m
first_of Several c = Several

-- the target that a choice names
abbrev pub target_by : (mode : Bool) → Choice Move → List ℕ
target_by false c = []
target_by true None = []
target_by true (Single m) = m.target
target_by true Several = []

-- the answer that findings give as they are gathered
unfoldable pub answer_to : Weighed → (asked : ℕ) → Answer
answer_to w asked =
    let c : Choice Move = first_of w.exact w.others in
    let e : Execute = execute_by asked w.denied c in
    record {
      verdict = Ok tt;
      granted = perms (set_of 7 (grants_by asked w.allowed w.denied e));
      recorded = perms (set_of 7 (λ k. records_by asked (grants_by asked w.allowed w.denied e k) w.allowed_audit w.denied w.denied_audit k));
      execute = e;
      target = target_of (named_by e c);
    }

-- the set r holds what is asked, allowed and not denied, and x only with a mode
pub record Granted (asked allowed denied : ℕ) (mode : Bool) (r : ℕ) : Type 0 where
  pub each : (k : ℕ) → k < 7 → has r k ≡ (has asked k && has allowed k && not (has denied k) && (not (eqb k x) || mode))
  pub small : asked < 128 → r < 128

-- the set r holds what is granted and audited, denied and audited, or refused without a denial
pub record Recorded (asked granted allowed_audit denied denied_audit r : ℕ) : Type 0 where
  pub each : (k : ℕ) → k < 7
      → has r k
      ≡ (((has granted k && has allowed_audit k) || (((has asked k && not (has granted k)) && has denied k) && has denied_audit k))
      || ((has asked k && not (has granted k)) && not (has denied k)))
  pub small : asked < 128 → granted < 128 → r < 128
