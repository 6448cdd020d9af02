use mathlib.Core.Path.{sym, ap, ◌∙◌}
use Rattle.profile.specs.Profiles.{file_of}
use Rattle.answer.specs.Answers.{refusal}
use Rattle.decide.proofs.Laws.{answer-accepted, answer-asked, answer-long, answer-path, answer-rejected, good-fits}
use Rattle.decide.proofs.decide.Goals as goal

pub returns-then-text-gt65535 : goal.returns-then-text-gt65535
returns-then-text-gt65535 c = c.refused.ensures ∙ ap refusal c.nowhere.ensures ∙ sym (answer-long c.args.text.now c.args.name.now c.args.path.now c.args.asked.0 c.args.owner c.if-text-gt65535.true)

pub returns-then-is_bad_path : goal.returns-then-is_bad_path
returns-then-is_bad_path c = c.refused-then-is_bad_path.ensures ∙ ap refusal c.nowhere-then-is_bad_path.ensures ∙ sym (answer-path c.args.text.now c.args.name.now c.args.path.now c.args.asked.0 c.args.owner c.if-text-gt65535.false (sym c.is_bad_path.ensures ∙ c.if-is_bad_path.true))

pub returns-then-is_bad_asked : goal.returns-then-is_bad_asked
returns-then-is_bad_asked c = c.refused-then-is_bad_asked.ensures ∙ ap refusal c.nowhere-then-is_bad_asked.ensures ∙ sym (answer-asked c.args.text.now c.args.name.now c.args.path.now c.args.asked.0 c.args.owner c.if-text-gt65535.false (sym c.is_bad_path.ensures ∙ c.if-is_bad_path.false) (sym c.is_bad_asked.ensures ∙ c.if-is_bad_asked.true))

pub returns-in-Err : goal.returns-in-Err
unfolding file_of
returns-in-Err c = c.refused-in-Err.ensures ∙ sym (answer-rejected c.args.text.now c.args.name.now c.args.path.now c.args.asked.0 c.args.owner c.if-text-gt65535.false (sym c.is_bad_path.ensures ∙ c.if-is_bad_path.false) (sym c.is_bad_asked.ensures ∙ c.if-is_bad_asked.false) _ c.read.result c.read.ensures.result_after c.in-Err.refusal c.in-Err.is)

pub answer_in-requires : goal.answer_in-requires
answer_in-requires c =
    record {
      count_bound = c.in-Ok.ensures.kept.few;
      fits = record { short = c.if-text-gt65535.false; fits = good-fits c.args.path.now (sym c.is_bad_path.ensures ∙ c.if-is_bad_path.false) };
    }

pub returns : goal.returns
unfolding file_of
returns c = answer-accepted c.args.text.now c.args.name.now c.args.path.now c.args.asked.0 c.args.owner c.if-text-gt65535.false (sym c.is_bad_path.ensures ∙ c.if-is_bad_path.false) (sym c.is_bad_asked.ensures ∙ c.if-is_bad_asked.false) _ c.read.result c.read.ensures.result_after c.in-Ok.f c.in-Ok.is c.answer_in.ensures
