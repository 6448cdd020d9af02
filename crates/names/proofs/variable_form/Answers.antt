use mathlib.Core.Path.{sym, ◌∙◌}
use Rattle.std.proofs.Common.{rules, tests, drop}
use Rattle.std.proofs.lemmas.Iterator.{YieldsList-from_slice}
use Rattle.std.proofs.lemmas.Iterator.Search.{all_from_yields_List}
use Rattle.names.specs.Names.{variable_byte}
use Rattle.scan.proofs.Laws.{every_all, span_rest}
use Rattle.names.proofs.Laws.{form-empty, form-first}
use Rattle.names.proofs.variable_form.Goals as goal

pub returns-then-is_letter : goal.returns-then-is_letter
returns-then-is_letter c =
    rw (form-first c.args.s.now c.in-len1-up.len_at_least, every_all, ← c.is_letter.ensures, c.if-is_letter.true, ← all_from_yields_List variable_byte _ _ _ c.all.ensures.ran (YieldsList-from_slice (drop 1 c.args.s.now) (c.iter.ensures.rest ∙ span_rest c.args.s.now 1)) λ x b q k. search (rules, tests))

pub returns-else-is_letter : goal.returns-else-is_letter
returns-else-is_letter c = rw (form-first c.args.s.now c.in-len1-up.len_at_least, ← c.is_letter.ensures, c.if-is_letter.false)

pub returns : goal.returns
returns c = sym (form-empty c.args.s.now c.in_default.len_below)
