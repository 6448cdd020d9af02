use mathlib.Core.Path.{sym, ap, ◌∙◌}
use Rattle.std.proofs.Common.{rules, tests}
use Rattle.std.proofs.lemmas.Iterator.Search.{all_from_yields_List}
use Rattle.std.proofs.lemmas.Iterator.Consumers.{YieldsList-from_first}
use Rattle.scan.proofs.Laws.{every_all, no_length}
use Rattle.class.specs.Class.{good_range, members, ranges}
use Rattle.class.specs.Members.{range, left}
use Rattle.class.proofs.Laws.{good-none, good-some}
use Rattle.class.proofs.good_class.Goals as goal

pub returns-then-is_empty : goal.returns-then-is_empty
unfolding ranges
returns-then-is_empty c = sym (good-none c.args.class.now (sym c.members-ranges.ensures ∙ ap (ranges 0) (no_length c.members-ranges.result.left.now (search (rules, tests)))))

pub returns : goal.returns
returns c =
    all_from_yields_List good_range c.all.new.self _ _ c.all.ensures.ran (YieldsList-from_first range left _ c.members-ranges.ensures) (λ x b q k. search (rules, tests))
    ∙ sym (every_all good_range (members c.args.class.now)) ∙ sym (good-some c.args.class.now c.members-ranges.result.left.now c.members-ranges.ensures (search (rules, tests)))
