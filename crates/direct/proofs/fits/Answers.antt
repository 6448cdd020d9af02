use mathlib.Core.Path.{sym, ◌∙◌}
use native.Mathlib.Omega.{arith}
use Rattle.std.proofs.Common.{rules, tests}
use Rattle.std.proofs.lemmas.Iterator.{YieldsList-from_slice, YieldsList-from_zip}
use Rattle.std.proofs.lemmas.Iterator.Search.{all_from_yields_List}
use Rattle.direct.proofs.Turns.{pair_fits, fitting-short, fitting-all}
use Rattle.direct.proofs.fits.Goals as goal

pub returns-then-path-tail : goal.returns-then-path-tail
returns-then-path-tail c = sym (fitting-short c.args.tail.now c.args.path.now (omega arith))

pub returns : goal.returns
returns c =
    all_from_yields_List pair_fits c.all.new.self _ _ c.all.ensures.ran (YieldsList-from_zip (YieldsList-from_slice c.args.tail.now cc) (YieldsList-from_slice c.args.path.now cc)) (λ x b q k. search (rules, tests))
    ∙ fitting-all c.args.tail.now c.args.path.now (omega arith)
