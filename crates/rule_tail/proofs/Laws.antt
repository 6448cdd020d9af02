-- Where the code has no token: the arms that are left when Found is ruled out.
use mathlib.Core.Path.{◌≡◌, refl}
use mathlib.Core.List.{[], ◌∷◌}
use mathlib.Core.Logic.{inl, inr}
use types.Run.{OneOf}
use denote.Enum.Declared.{tag_of}
use Rattle.tokens.specs.declared.Token as code
use Rattle.tokens.specs.declared.Read.{Read}
use Rattle.tokens.specs.declared.Read.TheVariants as read
use Rattle.tokens.specs.contracts.Read.{the_type}

pub not-token : (r : Read) → ((t : code.Token) → r ≡ read.Found t → ⊥) → OneOf (1 ∷ 2 ∷ []) (tag_of the_type r)
not-token (read.Found t) h = absurd (h t refl)
not-token (read.Stopped stop) h = inl refl
not-token (read.End p) h = inr refl
