-- One name whose unfolding opens every definition on the way from a text to its answer, for theorems by computation.
use Rattle.std.specs.Prelude.{ℕ, List, Bool}
use Rattle.class.specs.Class.{ranges, good_class, listed, in_class}
use Rattle.answer.specs.Answers.{move_of, execute_of, grants, records, answer_from}
use Rattle.request.specs.Requests.{doubled, bad_path}
use Rattle.decide.specs.Decide.{answer_in, answer_of}
use Rattle.family.specs.Members.{those, all, choice}
use Rattle.findings.specs.Findings.{applies, bits, moves, findings}
use Rattle.matcher.specs.Match.{matches, matches_some, matches_exactly}
use Rattle.pattern.specs.Expansions.{is_set, of_parts, one_of, of_name, of_items, across, expansions, count, longest, joined_after}
use Rattle.pattern.specs.Faults.{too_many, rooted, value_fault, pattern_fault}
use Rattle.pattern.specs.Items.{before, after_comma, item, reach, items, value_form, pattern_form, value_names, pattern_names}
use Rattle.pattern.specs.Pieces.{up_to, starting, extra, part, parts}
use Rattle.modes.specs.Modes.{mode_in, same_mode}
use Rattle.perms.specs.Sets.{has}
use Rattle.perms_word.specs.Words.{letters, before_letters, carried, with_mode, word_of}
use Rattle.preamble.specs.Preamble.{values_at, operator_from, after_name, assignment_at, preamble_at}
use Rattle.preamble.specs.Variables.{values_of, set_before, extended, assigned, final_sets}
use Rattle.heads.specs.Heads.{name_at, open_at, head_at}
use Rattle.profile.specs.Profiles.{profile_at, unless_end, profiles_at, file_within, file_of}
use Rattle.names.specs.Names.{name_form, variable_fault, variable_form}
use Rattle.rule.specs.Rules.{optional, qualifiers_at, pattern_from, pattern_at, rule_end, rule_from, body_at, rule_at, end_at, rules_at}
use Rattle.rule_tail.specs.Tails.{perms_at, target_at, comma_at}
use Rattle.scan.specs.Bytes.{bytes, every, some, same, run}
use Rattle.text.specs.Reading.{column_of, feeds, line_of}
use Rattle.blanks.specs.Blanks.{includes, skip}
use Rattle.tokens.specs.Tokens.{token_from, token_at}
use Rattle.keywords.specs.Keywords.{not_taken}
use Rattle.answer.specs.declared.Answer.{Answer}

unfoldable pub computed : (text name path : List ℕ) (asked : ℕ) (owner : Bool) → Answer
unfolding bytes every some same run has mode_in letters before_letters carried with_mode word_of feeds line_of column_of includes skip token_from token_at not_taken ranges good_class listed in_class up_to starting extra part parts before after_comma item reach items value_form pattern_form value_names pattern_names is_set of_parts one_of of_name of_items across expansions count longest joined_after too_many rooted value_fault pattern_fault matches matches_some matches_exactly name_form variable_form variable_fault values_of set_before extended assigned final_sets values_at operator_from after_name assignment_at preamble_at optional qualifiers_at pattern_from pattern_at perms_at target_at comma_at rule_end rule_from body_at rule_at end_at rules_at name_at open_at head_at profile_at unless_end profiles_at file_within file_of applies those all bits moves findings choice move_of execute_of grants records answer_from doubled bad_path answer_in answer_of same_mode
computed = answer_of
