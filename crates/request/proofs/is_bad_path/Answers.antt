use mathlib.Core.Path.{sym, ◌∙◌}
use Rattle.request.proofs.Laws.{bad-empty, bad_more}
use Rattle.request.proofs.is_bad_path.Goals as goal

pub returns-then-path-eq0 : goal.returns-then-path-eq0
returns-then-path-eq0 c = sym (bad-empty c.args.path.now c.if-path-eq0.true)

pub returns : goal.returns
returns c = sym (bad_more c.args.path.now c.if-path-eq0.false ∙ rw (← c.is_broken.ensures))
