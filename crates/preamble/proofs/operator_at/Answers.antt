use mathlib.Core.Path.{refl, sym, ◌∙◌}
use Rattle.scan.specs.Bytes.{bytes}
use Rattle.preamble.specs.Preamble.{operator_from}
use Rattle.preamble.specs.Places.{seen_operator}
use Rattle.preamble.proofs.Laws.{two-fit}
use borrow.Author.Rules.{rules}
use Rattle.preamble.proofs.operator_at.Goals as goal

pub returns-then-begins_at : goal.returns-then-begins_at
unfolding operator_from seen_operator
returns-then-begins_at c = λ after. rw (← c.begins_at.ensures, c.if-begins_at.true, operator_from)

pub overflow_add-result-then-starts_with : goal.overflow_add-result-then-starts_with
unfolding bytes
overflow_add-result-then-starts_with c =
    let h : _ = two-fit c.args.text.now c.args.sign (bytes "+=") refl (rw (← c.bytes_from.ensures) (sym c.starts_with.ensures ∙ c.if-starts_with.true)) in
    search rules

pub returns-then-starts_with : goal.returns-then-starts_with
unfolding operator_from seen_operator bytes
returns-then-starts_with c = λ after. rw (← c.begins_at.ensures, c.if-begins_at.false, ← c.bytes_from.ensures, ← c.starts_with.ensures, c.if-starts_with.true, operator_from)

pub returns : goal.returns
unfolding operator_from seen_operator bytes
returns c = λ after. rw (← c.begins_at.ensures, c.if-begins_at.false, ← c.bytes_from.ensures, ← c.starts_with.ensures, c.if-starts_with.false, operator_from)
