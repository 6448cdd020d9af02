use Rattle.std.proofs.Common.{rules, tests}
use mathlib.Core.Path.{◌∙◌}
use Rattle.std.proofs.lemmas.Iterator.{YieldsList-from_slice, YieldsList-from_zip}
use Rattle.std.proofs.lemmas.Iterator.Consumers.{count_from_yields_List}
use Rattle.std.proofs.lemmas.Iterator.Search.{YieldsList-from_take_while}
use Rattle.std.proofs.lemmas.List.Folds.{length-prefix_len}
use Rattle.std.specs.List.{zip}
use Rattle.matcher.proofs.Front.{takes_pair, taken_zip}
use Rattle.matcher.proofs.taken_front.Goals as goal

pub returns : goal.returns
returns c =
    count_from_yields_List c.take_while.result _ c.count.ensures.ran
    (YieldsList-from_take_while _ (takes_pair c.args.text.now) (YieldsList-from_zip (YieldsList-from_slice c.args.codes.now cc) (YieldsList-from_slice c.args.path.now cc)) c.take_while.ensures.closure c.take_while.ensures.done
    (λ x b q k. search (rules, tests)))
    ∙ length-prefix_len (takes_pair c.args.text.now) (zip c.args.codes.now c.args.path.now)
    ∙ taken_zip c.args.text.now c.args.codes.now c.args.path.now
