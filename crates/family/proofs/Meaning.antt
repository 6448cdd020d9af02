-- What the definitions say, rule by rule: demand 2's sentence on granting.
use mathlib.Core.Path.{◌≡◌, ap₂}
use mathlib.Core.List.{List}
use mathlib.Core.Bool.{Bool, not, ◌&&◌}
use Rattle.scan.specs.Bytes.{some}
use Rattle.family.specs.Families.{Family, allows, gathered, part, granted}
use Rattle.family.proofs.Lists.{some-those}

-- "granted exactly when some matching rule allows it, owner condition included, and no matching rule denies it"
pub granted-is : {R M : Type 0} (F : Family R M) (rs : List R)
    → granted (part F rs) ≡ (some (λ r. F.hits r && allows F r) rs && not (some (λ r. F.hits r && F.deny r) rs))
unfolding part gathered granted
granted-is F rs = ap₂ (λ (a b : Bool). a && not b) (some-those F.hits (allows F) rs) (some-those F.hits F.deny rs)
