use Rattle.std.proofs.Common.{rules, tests}
use mathlib.Core.Path.{sym, ◌∙◌}
use lib.ListN.{take}
use Rattle.std.proofs.lemmas.Iterator.{YieldsList-from_slice, YieldsList-from_take}
use Rattle.std.proofs.lemmas.Iterator.Search.{all_from_yields_List}
use Rattle.scan.proofs.Laws.{every_all}
use Rattle.codes.proofs.Laws.{literal_code, every-literal}
use Rattle.codes.proofs.is_literal.Goals as goal

pub returns : goal.returns
returns c =
    let cs = take c.args.count c.args.codes.now in
    λ text. all_from_yields_List literal_code _ _ _ c.all.ensures.ran (YieldsList-from_take c.args.count (YieldsList-from_slice c.args.codes.now cc) cc) (λ x b q k. search (rules, tests))
    ∙ sym (every_all literal_code cs) ∙ sym (every-literal text cs)
