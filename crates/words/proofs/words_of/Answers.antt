use mathlib.Core.Path.{◌≡◌, ◌∙◌}
use lib.ListN.{drop}
use Rattle.words.specs.Words.{words_of}
use Rattle.scan.proofs.Laws.{span_rest}
use Rattle.words.proofs.words_of.Goals as goal

pub returns : goal.returns
unfolding words_of
returns c =
    let rest : c.span-rest.result.now ≡ drop 8 c.args.path.now = c.span-rest.ensures ∙ span_rest c.args.path.now 8 in
    rw (c.word_of.ensures, c.word_of-2.ensures, rest)
