use Prim.Native.Char.{code}
use mathlib.Core.Path.{sym, ◌∙◌}
use Rattle.scan.proofs.Laws.{holds-any}
use Rattle.perms_word.proofs.Words.{word-empty, word-tail, word-both, word-told}
use Rattle.perms_word.proofs.read_word.Goals as goal

pub returns-then-word-eq0 : goal.returns-then-word-eq0
returns-then-word-eq0 c = sym (word-empty c.args.deny c.args.word.now c.if-word-eq0.true)

pub returns-then-letters_end-word : goal.returns-then-letters_end-word
returns-then-letters_end-word c = sym (word-tail c.args.deny c.args.word.now c.letters_end-start.result c.mode_end-end.result c.letters_end-start.ensures c.mode_end-end.ensures c.if-word-eq0.false (λ e. c.if-letters_end-word.true (c.letters_end.ensures ∙ e)))

pub returns-then-contains : goal.returns-then-contains
returns-then-contains c = sym (word-both c.args.deny c.args.word.now c.letters_end-start.result c.mode_end-end.result c.letters_end-start.ensures c.mode_end-end.ensures (c.contains.ensures.value ∙ sym (holds-any (code "w") c.args.word.now)) (c.contains-2.ensures.value ∙ sym (holds-any (code "a") c.args.word.now)) c.if-contains.true)

pub returns : goal.returns
returns c =
    let told = word-told c.args.deny c.args.word.now c.letters_end-start.result c.mode_end-end.result c.letters_end-start.ensures c.mode_end-end.ensures c.if-word-eq0.false (sym c.letters_end.ensures ∙ c.if-letters_end-word.false) (c.contains.ensures.value ∙ sym (holds-any (code "w") c.args.word.now)) (c.contains-2.ensures.value ∙ sym (holds-any (code "a") c.args.word.now)) c.if-contains.false in
    c.with_mode.ensures ∙ rw c.set_of.ensures (sym told)
