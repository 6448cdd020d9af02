use mathlib.Core.Path.{◌≡◌, refl, sym, ap}
use mathlib.Core.List.{map}
use Rattle.std.proofs.Common.{rules, tests, None, Some}
use Rattle.std.proofs.lemmas.Iterator.{YieldsList-from_slice}
use Rattle.std.proofs.lemmas.Iterator.Search.{find_from_yields_List}
use Rattle.std.specs.Option.{MatchOption}
use Rattle.scan.specs.Bytes.{bytes}
use Rattle.modes.specs.Modes.{modes, mode_in}
use Rattle.modes.proofs.Table.{coded, has_word, mode-found}
use Rattle.modes.proofs.mode_of.Goals as goal
use Rattle.modes.proofs.mode_of.Goals.{After-find}

found : (c : After-find) → MatchOption c.find.result (mode_in modes c.args.word.now ≡ None) (λ r. mode_in modes c.args.word.now ≡ Some r.now.1)
unfolding bytes
found c =
    mode-found c.args.word.now c.iter.result.rest.now (ap (map coded) c.iter.ensures.rest) c.find.result
    (find_from_yields_List (has_word c.args.word.now) _ _ c.find.result c.find.ensures.ran (YieldsList-from_slice c.iter.result.rest.now refl) (λ x b q k. search (rules, tests)))

pub returns-in-Some : goal.returns-in-Some
returns-in-Some c = sym (rw c.in-Some.is at (found (goal.at.returns-in-Some c).After-find))

pub returns-in-None : goal.returns-in-None
returns-in-None c = sym (rw c.in-None.is at (found (goal.at.returns-in-None c).After-find))
