use borrow.Author.Rules.{rules}
use mathlib.Core.Path.{◌∙◌}
use Rattle.entries.specs.Entries.{entry_of}
use Rattle.asking.proofs.Laws.{match-out, match-here}
use Rattle.asking.proofs.match_record.Goals as goal

pub returns-then-query-is_out : goal.returns-then-query-is_out
returns-then-query-is_out c = match-out c.args.text.now c.args.head.now c.args.name.now c.args.path.now c.args.owner (entry_of c.args.text.now c.args.entry) c.begin-query.ensures (c.is_out.ensures c.args.text.now) c.if-query-is_out.true

pub returns : goal.returns
returns c = c.matched.ensures ∙ match-here c.args.text.now c.args.head.now c.args.name.now c.args.path.now c.args.owner (entry_of c.args.text.now c.args.entry) c.begin-query.ensures (c.is_out.ensures c.args.text.now) c.if-query-is_out.false
