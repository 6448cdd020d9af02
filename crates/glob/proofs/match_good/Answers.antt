use mathlib.Core.Path.{sym, ◌∙◌}
use mathlib.Core.Bool.{false}
use Rattle.scan.specs.Bytes.{span}
use Rattle.front.proofs.Laws.{lead-none, lead-some}
use Rattle.glob.specs.Glob.{matched_in}
use Rattle.glob.proofs.match_good.Goals as goal

pub returns-in-Some : goal.returns-in-Some
unfolding matched_in
returns-in-Some c =
    let s = span c.args.text.now c.args.a c.args.e in
    rw (sym c.both_fit.ensures ∙ c.if-both_fit.true, lead-some false s c.args.path.now (sym c.lead.ensures ∙ c.in-Some.is)) c.match_behind.ensures

pub returns-in_default : goal.returns-in_default
unfolding matched_in
returns-in_default c =
    let s = span c.args.text.now c.args.a c.args.e in
    rw (sym c.both_fit.ensures ∙ c.if-both_fit.true, lead-none false s c.args.path.now (sym c.lead.ensures ∙ c.in_default.is))

pub returns-else-both_fit : goal.returns-else-both_fit
unfolding matched_in
returns-else-both_fit c = rw (sym c.both_fit.ensures ∙ c.if-both_fit.false)
