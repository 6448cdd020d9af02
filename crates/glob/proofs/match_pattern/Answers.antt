use mathlib.Core.Path.{sym, ◌∙◌}
use mathlib.Core.Bool.{false}
use Rattle.scan.specs.Bytes.{span}
use Rattle.pattern.specs.Table.{env}
use Rattle.front.proofs.Laws.{front-none, lead-none}
use Rattle.glob.proofs.Laws.{unmatched, unfit}
use Rattle.glob.proofs.match_pattern.Goals as goal

pub returns-in_default : goal.returns-in_default
returns-in_default c =
    let vs = env c.args.text.now c.args.vars.now c.args.n in
    let s = span c.args.text.now c.args.a c.args.e in
    unmatched c.args.text.now vs s c.args.path.now (front-none vs s c.args.path.now (lead-none false s c.args.path.now (sym c.lead_far.ensures ∙ c.in_default.is)))

pub returns-else-both_fit : goal.returns-else-both_fit
returns-else-both_fit c = unfit c.args.text.now (env c.args.text.now c.args.vars.now c.args.n) (span c.args.text.now c.args.a c.args.e) c.args.path.now (sym c.both_fit.ensures ∙ c.if-both_fit.false)
