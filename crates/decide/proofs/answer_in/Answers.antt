use mathlib.Core.Path.{sym, ap, ◌∙◌}
use Rattle.pattern.specs.Faults.{pattern_fault}
use Rattle.pattern.specs.Table.{env}
use Rattle.statement.specs.Steps.{rules_from}
use Rattle.findings.specs.Findings.{Access, findings}
use Rattle.findings.specs.Weighed.{Weighed}
use Rattle.answer.specs.Answers.{refusal}
use Rattle.answer.specs.Parts.{answer_to}
use Rattle.answer.proofs.Laws.{answer-gathered}
use Rattle.weigh.proofs.Laws.{gathered-fit}
use Rattle.decide.proofs.Laws.{answer-by}
use Rattle.decide.proofs.answer_in.Goals as goal

pub returns-in_default : goal.returns-in_default
returns-in_default c =
    let vs = env c.args.text.now c.args.vars.now c.args.n in
    let q : Access = record { path = c.args.path.now; owner = c.args.owner } in
    c.refused.ensures ∙ ap refusal c.nowhere.ensures ∙ sym (answer-by vs q c.args.asked.0 c.args.text.now c.args.profiles.now c.args.count c.args.name.now c.find.result c.find.ensures _ c.in_default.is)

pub returns : goal.returns
returns c =
    let vs = env c.args.text.now c.args.vars.now c.args.n in
    let q : Access = record { path = c.args.path.now; owner = c.args.owner } in
    c.finish.ensures
    ∙ ap (λ (w : Weighed). answer_to w c.args.asked.0) (c.findings_of-found.ensures ∙ gathered-fit c.args.text.now vs q c.in-Some.rules.count c.in-Some.rules.at.0 c.requires.fits)
    ∙ answer-gathered (findings vs q (rules_from c.in-Some.rules.count (pattern_fault vs) c.args.text.now c.in-Some.rules.at.0)) c.args.asked.0
    ∙ sym (answer-by vs q c.args.asked.0 c.args.text.now c.args.profiles.now c.args.count c.args.name.now c.find.result c.find.ensures _ c.in-Some.is)
