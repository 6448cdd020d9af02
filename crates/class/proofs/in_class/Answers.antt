use mathlib.Core.Path.{sym, ap, ◌∙◌}
use mathlib.Core.Bool.{not}
use Rattle.scan.specs.Bytes.{between, some}
use Rattle.scan.proofs.Laws.{some_any}
use Rattle.class.specs.Class.{Range, members}
use Rattle.class.proofs.Laws.{listed-any, in-negated, in-listed}
use Rattle.class.proofs.in_class.Goals as goal

pub returns-then-negated : goal.returns-then-negated
returns-then-negated c =
    ap not (listed-any c.args.class.now c.args.b _ (c.is_listed.ensures ∙ ap (some (λ (r : Range). between r.low r.high c.args.b)) c.members.ensures ∙ some_any (λ (r : Range). between r.low r.high c.args.b) (members c.args.class.now)))
    ∙ sym (in-negated c.args.class.now c.args.b (sym c.negated.ensures ∙ c.if-negated.true))

pub returns : goal.returns
returns c =
    listed-any c.args.class.now c.args.b _ (c.is_listed.ensures ∙ ap (some (λ (r : Range). between r.low r.high c.args.b)) c.members.ensures ∙ some_any (λ (r : Range). between r.low r.high c.args.b) (members c.args.class.now))
    ∙ sym (in-listed c.args.class.now c.args.b (sym c.negated.ensures ∙ c.if-negated.false))
