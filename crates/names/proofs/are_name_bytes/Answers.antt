use Rattle.std.proofs.Common.{rules, tests}
use Rattle.std.proofs.lemmas.Iterator.{YieldsList-from_slice}
use Rattle.std.proofs.lemmas.Iterator.Search.{all_from_yields_List}
use Rattle.names.specs.Names.{name_byte}
use Rattle.scan.proofs.Laws.{every_all}
use Rattle.names.proofs.are_name_bytes.Goals as goal

pub returns : goal.returns
returns c = rw every_all (all_from_yields_List (name_byte c.args.quoted) _ _ _ c.all.ensures.ran (YieldsList-from_slice c.args.name.now cc) λ x b q k. search (rules, tests))
