use mathlib.Core.Path.{◌≡◌, refl, sym, ap}
use mathlib.Core.List.{map}
use Rattle.std.proofs.Common.{rules, tests, ◌+◌}
use Rattle.std.proofs.lemmas.Iterator.{YieldsList-from_slice}
use Rattle.std.proofs.lemmas.Iterator.Search.{position_from_yields_List}
use Rattle.std.specs.Option.{MatchOption}
use Rattle.scan.specs.Bytes.{bytes}
use Rattle.modes.specs.Modes.{modes, number_in}
use Rattle.modes.proofs.Table.{coded, has_mode, number-found}
use Rattle.modes.proofs.mode_number.Goals as goal
use Rattle.modes.proofs.mode_number.Goals.{After-position}

found : (c : After-position) → MatchOption c.position.result (number_in modes 3 c.args.mode ≡ 255) (λ i. number_in modes 3 c.args.mode ≡ i + 3)
unfolding bytes
found c =
    number-found c.args.mode c.iter.result.rest.now (ap (map coded) c.iter.ensures.rest) c.position.result
    (position_from_yields_List (has_mode c.args.mode) _ _ c.position.result c.position.ensures.ran (YieldsList-from_slice c.iter.result.rest.now refl) (λ x b q k. search (rules, tests)))

pub returns-in-Some : goal.returns-in-Some
returns-in-Some c = sym (rw c.in-Some.is at (found (goal.at.returns-in-Some c).After-position))

pub returns-in-None : goal.returns-in-None
returns-in-None c = sym (rw c.in-None.is at (found (goal.at.returns-in-None c).After-position))
