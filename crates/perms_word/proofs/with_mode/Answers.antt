use mathlib.Core.Path.{sym, ap, ◌∙◌}
use Rattle.scan.specs.Bytes.{bytes}
use Rattle.perms_word.specs.Words.{named}
use Rattle.perms_word.proofs.Words.{mode-none, mode-bare, mode-denied, mode-allowed}
use Rattle.perms_word.proofs.with_mode.Goals as goal

pub returns-then-mode-eq0 : goal.returns-then-mode-eq0
returns-then-mode-eq0 c = sym (mode-none c.args.set c.args.deny c.args.mode.now c.if-mode-eq0.true)

pub returns-then-same_bytes : goal.returns-then-same_bytes
unfolding bytes
returns-then-same_bytes c = rw c.if-deny.true (sym (mode-bare c.args.set c.args.mode.now c.if-mode-eq0.false (sym c.same_bytes.ensures ∙ c.if-same_bytes.true)))

pub returns-then-deny : goal.returns-then-deny
unfolding bytes
returns-then-deny c = rw c.if-deny.true (sym (mode-denied c.args.set c.args.mode.now c.if-mode-eq0.false (sym c.same_bytes.ensures ∙ c.if-same_bytes.false)))

pub returns : goal.returns
returns c = rw c.if-deny.false (c.with_transition.ensures ∙ ap (named c.args.set) c.mode_of.ensures ∙ sym (mode-allowed c.args.set c.args.mode.now c.if-mode-eq0.false))
