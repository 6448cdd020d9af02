use Rattle.std.proofs.Common.{Ok}
use Prim.Native.Nat.{ℕ}
use mathlib.Core.Path.{◌≡◌, ap, ap₂, ◌∙◌}
use Rattle.text.specs.Places.{span_of}
use Rattle.perms.specs.Sets.{perms}
use Rattle.perms.specs.declared.Perms.{Perms}
use Rattle.modes.specs.declared.Execute.{Execute}
use Rattle.family.specs.Members.{Choice}
use Rattle.findings.specs.Findings.{Move}
use Rattle.findings.specs.Weighed.{seen_choice, seen_findings}
use Rattle.answer.specs.Answers.{execute_by, is_mode, named_by, target_of, whole_of}
use Rattle.answer.specs.Parts.{answer_to, first_of, target_by}
use Rattle.answer.proofs.Laws.{execute-is, granted-is, named-target, recorded-is}
use Rattle.answer.proofs.finish_brief.Goals as goal

pub returns : goal.returns
unfolding answer_to seen_findings whole_of
returns c =
    λ s.
    let w = seen_findings s c.args.found in
    let asked : ℕ = c.args.asked.0 in
    let wanted : ℕ = c.both-wanted.result.0 in
    let masks = ap (λ (p : Perms). p.0) c.both-wanted.ensures in
    let t : Choice Move = first_of w.exact w.others in
    let x : Execute = execute_by asked w.denied t in
    let move : seen_choice s c.prefer-choice.result ≡ t = c.prefer-choice.ensures s in
    let execute : c.execute_of-execute.result ≡ x = c.execute_of-execute.ensures s ∙ ap (execute_by wanted w.denied) move ∙ execute-is w asked wanted masks t in
    let mode : c.is_mode-by_mode.result ≡ is_mode x = c.is_mode-by_mode.ensures ∙ ap is_mode execute in
    let granted = granted-is w asked wanted masks x _ _ mode c.granted_of-granted.ensures in
    let recorded = recorded-is w asked wanted masks x _ _ granted c.recorded_of.ensures in
    let target : span_of s c.target_of.result ≡ named_by x t = c.target_of.ensures s ∙ ap₂ target_by mode move ∙ named-target x t in
    λ i. record { verdict = Ok tt; granted = perms (granted i); recorded = perms (recorded i); execute = execute i; target = target_of (target i) }
