use mathlib.Core.Path.{◌≡◌, refl, sym, ap}
use mathlib.Core.List.{[], map}
use Rattle.std.proofs.Common.{rules, tests}
use Rattle.std.proofs.lemmas.Iterator.{YieldsList-from_slice}
use Rattle.std.proofs.lemmas.Iterator.Search.{find_from_yields_List}
use Rattle.std.specs.Option.{MatchOption}
use Rattle.scan.specs.Bytes.{bytes}
use Rattle.modes.specs.Modes.{modes, word_in}
use Rattle.modes.proofs.Table.{coded, has_mode, word-found}
use Rattle.modes.proofs.mode_word.Goals as goal
use Rattle.modes.proofs.mode_word.Goals.{After-find}

found : (c : After-find) → MatchOption c.find.result (word_in modes c.args.mode ≡ []) (λ r. word_in modes c.args.mode ≡ r.now.0.now)
unfolding bytes
found c =
    word-found c.args.mode c.iter.result.rest.now (ap (map coded) c.iter.ensures.rest) c.find.result
    (find_from_yields_List (has_mode c.args.mode) _ _ c.find.result c.find.ensures.ran (YieldsList-from_slice c.iter.result.rest.now refl) (λ x b q k. search (rules, tests)))

pub returns-in-Some : goal.returns-in-Some
returns-in-Some c = sym (rw c.in-Some.is at (found (goal.at.returns-in-Some c).After-find))

pub returns-in-None : goal.returns-in-None
returns-in-None c = sym (rw c.in-None.is at (found (goal.at.returns-in-None c).After-find))
