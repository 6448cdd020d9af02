-- A file request: its rules as a family for each permission; document 01's six sets and the answer, read off the parts of the seven.
use Rattle.std.specs.Prelude.{ℕ, List, [], Bool, ◌&&◌, eqb, if◌then◌else◌, Ok}
use Rattle.perms.specs.Sets.{has, set_of, perms}
use Rattle.family.specs.Families.{Family, Part, part, choice_of, granted, granted_one, recorded}
use Rattle.modes.specs.declared.Execute.{Execute}
use Rattle.modes.specs.declared.Execute.TheVariants.{NotAsked}
use Rattle.pattern.specs.Expansions.{Variable}
use Rattle.matcher.specs.Match.{matches_exactly}
use Rattle.rule.specs.Rules.{Rule}
use Rattle.findings.specs.Findings.{Access, Move, Findings, applies, move_by, same_move}
use Rattle.answer.specs.Answers.{x, chosen, named_by, target_of}
use Rattle.answer.specs.declared.Answer.{Answer}

-- the rules of a profile under a file request, as permission k sees them: for x with their transitions
abbrev pub files : List Variable → Access → ℕ → Family Rule Move
files vs a k =
    record {
      hits = λ r. applies vs a r && has r.perms.0 k;
      deny = λ r. r.deny;
      audit = λ r. r.audit;
      exact = λ r. matches_exactly vs r.pattern a.path;
      shows = λ r. if eqb k x then move_by r.transition r.target else [];
    }

-- what is found of the seven permissions
abbrev pub Parts : Type 0
Parts = ℕ → Part Move

abbrev pub parts_of : List Variable → Access → List Rule → Parts
parts_of vs a rs k = part (files vs a k) rs

-- document 01's six: the permissions of which each holds, and the transitions
unfoldable pub six : Parts → Findings
six f =
    record {
      allowed = set_of 7 (λ k. (f k).allow);
      allowed_audit = set_of 7 (λ k. (f k).allow_audit);
      denied = set_of 7 (λ k. (f k).deny);
      denied_audit = set_of 7 (λ k. (f k).deny_audit);
      exact = (f x).exact;
      others = (f x).others;
    }

-- ---- the answer

unfoldable pub executed : Parts → (asked : ℕ) → Execute
executed f asked = if has asked x then chosen (f x).deny (choice_of same_move (f x)) else NotAsked

-- "x only with a single transition"
unfoldable pub granted_at : Parts → ℕ → Bool
granted_at f k = if eqb k x then granted_one same_move (f k) else granted (f k)

unfoldable pub answered : Parts → (asked : ℕ) → Answer
answered f asked =
    record {
      verdict = Ok tt;
      granted = perms (set_of 7 (λ k. has asked k && granted_at f k));
      recorded = perms (set_of 7 (λ k. has asked k && recorded (granted_at f k) (f k)));
      execute = executed f asked;
      target = target_of (named_by (executed f asked) (choice_of same_move (f x)));
    }
