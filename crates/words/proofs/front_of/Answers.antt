use mathlib.Core.Path.{◌≡◌, ap, ◌∙◌}
use Prim.Native.Nat.{ℕ}
use lib.ListN.{drop}
use Rattle.scan.specs.Bytes.{span}
use Rattle.scan.proofs.Laws.{span_rest}
use Rattle.front.specs.Front.{front}
use Rattle.words.specs.Words.{masked}
use Rattle.words.proofs.Turns.{span-front}
use Rattle.words.proofs.front_of.Goals as goal

pub returns : goal.returns
unfolding masked
returns c =
    let whole : c.span-front.result.now ≡ front (span c.args.text.now c.args.a c.args.e) =
    c.span-front.ensures ∙ ap (λ (n : ℕ). span c.span-pattern.result.now 0 n) c.front_len-n.ensures ∙ span-front c.span-pattern.result.now ∙ ap front c.span-pattern.ensures in
    let rest : c.span-rest.result.now ≡ drop 8 c.span-front.result.now = c.span-rest.ensures ∙ span_rest c.span-front.result.now 8 in
    rw (c.word_of.ensures, c.word_of-2.ensures, c.mask_of-first_mask.ensures, c.mask_of-second_mask.ensures, rest, whole)
