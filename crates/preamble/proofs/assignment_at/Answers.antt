use mathlib.Core.Path.{sym, ap, ◌∙◌}
use Rattle.scan.specs.Bytes.{bytes}
use Rattle.names.specs.Names.{variable_fault}
use Rattle.blanks.proofs.Laws.{stands-inside}
use Rattle.pattern.specs.Table.{env}
use Rattle.preamble.specs.Places.{seen_preamble}
use Rattle.preamble.proofs.Laws.{assignment-open, assignment-bad, assignment-good}
use borrow.Author.Rules.{rules}
use Rattle.preamble.proofs.assignment_at.Goals as goal

pub overflow_add-start : goal.overflow_add-start
unfolding bytes
overflow_add-start c =
    let h = stands-inside (bytes "@{") c.args.text.now c.args.at.0 c.requires in
    search rules

pub returns-then-number-ne0-clause-result_after : goal.returns-then-number-ne0-clause-result_after
unfolding seen_preamble
returns-then-number-ne0-clause-result_after c =
    sym (assignment-bad (env c.args.text.now c.args.vars.now c.args.n) c.args.text.now c.args.at.0 c.standing_at-first.result.0 c.name_end-end.result c.standing_at-first.ensures c.name_end-end.ensures (sym c.begins_at.ensures ∙ c.if-begins_at.true) c.variable_fault-number.result (c.variable_fault-number.ensures ∙ ap variable_fault c.span.ensures) c.if-number-ne0.true)

pub returns-then-begins_at-clause-result_after : goal.returns-then-begins_at-clause-result_after
returns-then-begins_at-clause-result_after c =
    assignment-good (env c.args.text.now c.args.vars.now c.args.n) c.args.text.now c.args.at.0 c.standing_at-first.result.0 c.name_end-end.result c.standing_at-first.ensures c.name_end-end.ensures (sym c.begins_at.ensures ∙ c.if-begins_at.true) c.variable_fault-number.result (c.variable_fault-number.ensures ∙ ap variable_fault c.span.ensures) c.if-number-ne0.false c.after_name.ensures.result_after

pub returns-clause-result_after : goal.returns-clause-result_after
unfolding seen_preamble
returns-clause-result_after c =
    sym (assignment-open (env c.args.text.now c.args.vars.now c.args.n) c.args.text.now c.args.at.0 c.standing_at-first.result.0 c.name_end-end.result c.standing_at-first.ensures c.name_end-end.ensures (sym c.begins_at.ensures ∙ c.if-begins_at.false))
