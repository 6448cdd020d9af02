use Rattle.std.proofs.Common.{rules, tests}
use Rattle.std.proofs.lemmas.Iterator.{YieldsList-from_slice}
use Rattle.std.proofs.lemmas.Iterator.Search.{any_from_yields_List}
use Rattle.scan.specs.Bytes.{bytes, same, some}
use Rattle.scan.proofs.Laws.{same-pointwise}
use Rattle.keywords.proofs.is_fixed.Goals as goal

pub returns : goal.returns
unfolding bytes some
returns c = any_from_yields_List (λ k. same c.args.word.now k.now) _ _ _ c.any.ensures.ran (YieldsList-from_slice _ c.iter.ensures.rest) λ x b q k. rw (same-pointwise c.args.word.now x.now.now) (search (rules, tests))
