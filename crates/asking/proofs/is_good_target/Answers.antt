use borrow.Author.Rules.{rules}
use mathlib.Core.Path.{sym, ap, ◌∙◌}
use lib.ListN.{length}
use Rattle.asking.proofs.Laws.{target_none, target-some}
use Rattle.asking.proofs.is_good_target.Goals as goal

pub returns-then-name-eq0 : goal.returns-then-name-eq0
returns-then-name-eq0 c = sym (target_none _ _ (ap length (sym c.span-name.ensures) ∙ c.if-name-eq0.true))

pub returns : goal.returns
returns c = rw (target-some c.args.transition _ (λ e. c.if-name-eq0.false (ap length c.span-name.ensures ∙ e)), c.takes_target.ensures, c.name_form.ensures, c.span-name.ensures)
