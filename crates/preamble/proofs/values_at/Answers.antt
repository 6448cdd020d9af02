use borrow.Author.Rules.{rules}
use mathlib.Core.Path.{sym, ◌∙◌}
use Rattle.tokens.proofs.Laws.{no-token}
use Rattle.preamble.proofs.Laws.{upto-start, upto-end, upto-stop, upto-fault, upto-less, upto-more}
use Rattle.preamble.proofs.values_at.Goals as goal

pub loop-w-init : goal.loop-w-init
loop-w-init c = upto-start _ _ _ _

pub returns-then-line_ends : goal.returns-then-line_ends
returns-then-line_ends c = upto-end c.loop-w.invariant c.in_line_at-p.ensures (sym c.line_ends.ensures ∙ c.if-line_ends.true)

pub returns-in_default : goal.returns-in_default
returns-in_default c = upto-stop c.loop-w.invariant c.in_line_at-p.ensures c.next_token-r.result c.next_token-r.ensures (sym c.line_ends.ensures ∙ c.if-line_ends.false) (no-token _ _ (search rules)) _ c.stop_of.ensures

pub returns-then-number-ne0 : goal.returns-then-number-ne0
returns-then-number-ne0 c = upto-fault c.loop-w.invariant c.in_line_at-p.ensures c.next_token-r.result c.next_token-r.ensures (sym c.line_ends.ensures ∙ c.if-line_ends.false) c.in-Found.t c.in-Found.is c.requires c.next_fault-number.result (c.next_fault-number.ensures c.requires) c.if-number-ne0.true

pub loop-w-smaller : goal.loop-w-smaller
loop-w-smaller c = upto-less c.loop-w.invariant c.in_line_at-p.ensures c.next_token-r.result c.next_token-r.ensures (sym c.line_ends.ensures ∙ c.if-line_ends.false) c.in-Found.t c.in-Found.is c.requires c.next_fault-number.result (c.next_fault-number.ensures c.requires) c.if-number-ne0.false c.with_value.ensures

pub loop-w-preserved : goal.loop-w-preserved
loop-w-preserved c = upto-more c.loop-w.invariant c.in_line_at-p.ensures c.next_token-r.result c.next_token-r.ensures (sym c.line_ends.ensures ∙ c.if-line_ends.false) c.in-Found.t c.in-Found.is c.requires c.next_fault-number.result (c.next_fault-number.ensures c.requires) c.if-number-ne0.false c.with_value.ensures
