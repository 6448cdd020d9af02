-- A refusal that is passed on.
use Rattle.std.proofs.Common.{Result, Ok, Err, IsErrAnd}
use mathlib.Core.Path.{◌≡◌, ap}
use Rattle.text.specs.Reading.{Reading}
use Rattle.text.specs.Places.{refused_by, seen_by}
use Rattle.text.specs.declared.Stop.{Stop}

-- what a ? returns, where the callee refuses with this stop
pub seen-refused : {A B : Type 0} (f : A → B) (r : Result A Stop) {stop : Stop} → IsErrAnd r (λ y. y ≡ stop) → seen_by f r ≡ refused_by stop
seen-refused f (Ok x) h = absurd h
seen-refused f (Err y) h = ap refused_by h
