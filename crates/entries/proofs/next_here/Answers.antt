use mathlib.Core.Path.{refl}
use Rattle.entries.proofs.Cursors.{left_end, left-none, left_one}
use Rattle.entries.proofs.next_here.Goals as goal

pub returns-then-at-eq0 : goal.returns-then-at-eq0
returns-then-at-eq0 c = left-none c.args.text.now c.args.at c.if-at-eq0.true

pub returns-in-Rule : goal.returns-in-Rule
returns-in-Rule c = left_one c.args.text.now c.args.at c.if-at-eq0.false c.in-Rule.rule c.in-Rule.next (rw c.in-Rule.is at c.in-Ok.ensures.result_value) (rw c.in-Rule.is at c.in-Ok.ensures.profile) c.record_of.result c.record_of.ensures

pub returns-in-Close : goal.returns-in-Close
returns-in-Close c = left_end c.args.text.now c.args.at c.if-at-eq0.false (rw c.in-Close.is at c.in-Ok.ensures.result_value) (λ f. refl)

pub returns-in-Err : goal.returns-in-Err
returns-in-Err c = left_end c.args.text.now c.args.at c.if-at-eq0.false c.in-Err.ensures.result_value (λ f. refl)
