-- The findings of a rule list on a request, by which rules match.
use Rattle.std.specs.Prelude.{ℕ, ◌≡◌, List, [], ◌∷◌, ◌++◌, Bool, not, ◌||◌, ◌&&◌, Option, None, Some}
use Rattle.std.specs.Int.Bits.{bit_or}
use Rattle.scan.specs.Bytes.{same, some}
use Rattle.family.specs.Members.{those, all, SameMembers}
use Rattle.perms.specs.Sets.{has, set_of}
use Rattle.modes.specs.Modes.{same_mode}
use Rattle.modes.specs.declared.Mode.{Mode}
use Rattle.pattern.specs.Expansions.{Variable}
use Rattle.matcher.specs.Match.{matches_some, matches_exactly}
use Rattle.rule.specs.Rules.{Rule}

-- what is to be accessed, and whether the request's owner mark is set
pub record Access : Type 0 where
  pub path : List ℕ
  pub owner : Bool

-- document 01's transition: "mode and target bytes"
pub record Move : Type 0 where
  pub mode : Mode
  pub target : List ℕ

pub record Findings : Type 0 where
  pub allowed : ℕ
  pub allowed_audit : ℕ
  pub denied : ℕ
  pub denied_audit : ℕ
  pub exact : List Move
  pub others : List Move

-- "A rule matches a request when its pattern matches and, if it says owner, the request's owner mark is set."
unfoldable pub applies : List Variable → Access → Rule → Bool
applies vs q r = (not r.owner || q.owner) && matches_some vs r.pattern q.path

-- the bits carried by the rules of which p holds
unfoldable pub bits : (Rule → Bool) → List Rule → ℕ
bits p rs = set_of 7 (λ k. some (λ (r : Rule). p r && has r.perms.0 k) rs)

-- the transition of a rule, none where it names no mode
abbrev pub move_by : Option Mode → List ℕ → List Move
move_by None t = []
move_by (Some m) t = record { mode = m; target = t } ∷ []

-- the transitions of the rules of which p holds
unfoldable pub moves : (Rule → Bool) → List Rule → List Move
moves p rs = all (λ (r : Rule). move_by r.transition r.target) (those p rs)

abbrev pub allows : Rule → Bool
allows r = not r.deny

abbrev pub denies : Rule → Bool
denies r = r.deny

abbrev pub audited : (Rule → Bool) → Rule → Bool
audited p r = p r && r.audit

-- an allow rule that matches the path exactly; one that matches it otherwise
abbrev pub exactly : List Variable → Access → Rule → Bool
exactly vs q r = allows r && matches_exactly vs r.pattern q.path

abbrev pub otherwise : List Variable → Access → Rule → Bool
otherwise vs q r = allows r && not (matches_exactly vs r.pattern q.path)

-- "bits carried by matching allow rules; those among them from audit rules; bits carried by matching deny rules; those from audit
-- rules; the set of transitions of exact matches; the same of other matches"
unfoldable pub findings : List Variable → Access → List Rule → Findings
findings vs q rs =
    let m : List Rule = those (applies vs q) rs in
    record {
      allowed = bits allows m;
      allowed_audit = bits (audited allows) m;
      denied = bits denies m;
      denied_audit = bits (audited denies) m;
      exact = moves (exactly vs q) m;
      others = moves (otherwise vs q) m;
    }

-- "Joining two findings unites each of these six with its counterpart."
unfoldable pub join : Findings → Findings → Findings
join f g =
    record {
      allowed = bit_or f.allowed g.allowed;
      allowed_audit = bit_or f.allowed_audit g.allowed_audit;
      denied = bit_or f.denied g.denied;
      denied_audit = bit_or f.denied_audit g.denied_audit;
      exact = f.exact ++ g.exact;
      others = f.others ++ g.others;
    }

-- ---- equal findings

abbrev pub same_move : Move → Move → Bool
same_move a b = same_mode a.mode b.mode && same a.target b.target

-- "Findings are equal when the four bit sets are and both transition sets have the same members."
pub record Equal (f g : Findings) : Type 0 where
  pub allowed : f.allowed ≡ g.allowed
  pub allowed_audit : f.allowed_audit ≡ g.allowed_audit
  pub denied : f.denied ≡ g.denied
  pub denied_audit : f.denied_audit ≡ g.denied_audit
  pub exact : SameMembers same_move f.exact g.exact
  pub others : SameMembers same_move f.others g.others
