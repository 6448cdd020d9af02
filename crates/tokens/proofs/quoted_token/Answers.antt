use Rattle.scan.proofs.Laws.{begins-lt}
use Prim.Native.Nat.{◌+◌}
use mathlib.Core.Path.{sym, ◌∙◌}
use native.Mathlib.Omega.{arith}
use lib.ListN.{drop}
use Rattle.scan.specs.Bytes.{run}
use Rattle.tokens.specs.Tokens.{in_quotes, quote}
use Rattle.tokens.specs.Places.{seen}
use Rattle.tokens.proofs.Laws.{quoted-found, quoted-open}
use Rattle.tokens.proofs.quoted_token.Goals as goal

pub overflow_add-result-then-begins_at : goal.overflow_add-result-then-begins_at
overflow_add-result-then-begins_at c = omega (arith, begins-lt quote c.args.text.now c.quoted_end-close.result (sym c.begins_at.ensures ∙ c.if-begins_at.true))

pub returns-then-begins_at : goal.returns-then-begins_at
unfolding seen
returns-then-begins_at c = quoted-found c.args.text.now c.args.p (run in_quotes (drop (c.args.p + 1) c.args.text.now)) c.quoted_end-close.result c.quoted_end-close.ensures (sym c.begins_at.ensures ∙ c.if-begins_at.true)

pub returns : goal.returns
unfolding seen
returns c = quoted-open c.args.text.now c.args.p (run in_quotes (drop (c.args.p + 1) c.args.text.now)) c.quoted_end-close.result c.quoted_end-close.ensures (sym c.begins_at.ensures ∙ c.if-begins_at.false)
