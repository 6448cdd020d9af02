use mathlib.Core.Path.{◌≡◌}
use lib.ListN.{length}
use Rattle.entries.proofs.Laws.{kept}
use borrow.Author.Rules.{rules}
use Rattle.entries.proofs.keep.Goals as goal

pub returns : goal.returns
returns c =
    let i : length c.args.vars.now ≡ 1120 = search rules in
    let j : length c.args.profiles.now ≡ 128 = search rules in
    let k : length c.args.counts.now ≡ 3 = search rules in
    record { variables = i; names = j; all = kept c.args.head.now c.args.vars.now c.args.profiles.now c.args.counts.now _ _ _ i j k c.copy.ensures c.copy-2.ensures c.copy-3.ensures }
