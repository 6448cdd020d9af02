use mathlib.Core.Path.{sym, ◌∙◌}
use lib.ListN.{drop}
use Rattle.scan.specs.Bytes.{run}
use Rattle.tokens.specs.Tokens.{plain}
use Rattle.tokens.specs.Places.{seen}
use Rattle.tokens.proofs.Laws.{plain-found, plain-broken}
use Rattle.tokens.proofs.plain_token.Goals as goal

pub returns-then-begins_at : goal.returns-then-begins_at
unfolding seen
returns-then-begins_at c = plain-broken c.args.text.now c.args.p (run (plain c.args.stop) (drop c.args.p c.args.text.now)) c.plain_end-end.result c.plain_end-end.ensures (sym c.begins_at.ensures ∙ c.if-begins_at.true)

pub returns : goal.returns
unfolding seen
returns c = plain-found c.args.text.now c.args.p (run (plain c.args.stop) (drop c.args.p c.args.text.now)) c.plain_end-end.result c.plain_end-end.ensures (sym c.begins_at.ensures ∙ c.if-begins_at.false)
