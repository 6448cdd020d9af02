use mathlib.Core.Path.{sym, ap, ◌∙◌}
use Rattle.scan.specs.Bytes.{span}
use Rattle.text.specs.Places.{refused_by}
use Rattle.pattern.specs.Table.{env}
use Rattle.preamble.specs.Places.{seen_preamble}
use Rattle.preamble.proofs.Laws.{name-found, name-missing}
use Rattle.preamble.proofs.after_name.Goals as goal

pub returns-in_default-clause-result_after : goal.returns-in_default-clause-result_after
unfolding seen_preamble
returns-in_default-clause-result_after c =
    ap refused_by c.stop_of.ensures ∙ sym (name-missing (env c.args.text.now c.args.vars.now c.args.n) c.args.text.now (span c.args.text.now c.args.start c.args.end) c.args.start c.args.end c.in_line_at-sign.result c.operator_at.result c.in_line_at-sign.ensures c.operator_at.ensures c.in_default.is c.next_token.result c.next_token.ensures)

pub returns-clause-result_after : goal.returns-clause-result_after
returns-clause-result_after c =
    rw (name-found (env c.args.text.now c.args.vars.now c.args.n) c.args.text.now (span c.args.text.now c.args.start c.args.end) c.args.start c.args.end c.in_line_at-sign.result c.operator_at.result c.in_line_at-sign.ensures c.operator_at.ensures c.in-Some.o c.in-Some.is) c.after_operator.ensures.result_after
