use native.Mathlib.Omega.{arith}
use mathlib.Core.Path.{refl, sym, ap₂, ◌∙◌}
use Rattle.scan.specs.Bytes.{same, some, span}
use Rattle.heads.specs.Places.{names_of}
use Rattle.heads.proofs.Laws.{names-hit, names-miss}
use Rattle.heads.proofs.is_used.Goals as goal

pub loop-i-init : goal.loop-i-init
unfolding some names_of
loop-i-init c = refl

pub returns-then-same_bytes : goal.returns-then-same_bytes
returns-then-same_bytes c = sym (names-hit c.args.text.now c.args.table.now (span c.args.text.now c.args.a c.args.e) _ _ (omega (arith, c.least-i-end.ensures)) (sym (c.same_bytes.ensures ∙ ap₂ same c.span-name.ensures c.span.ensures) ∙ c.if-same_bytes.true))

pub loop-i-preserved : goal.loop-i-preserved
loop-i-preserved c = names-miss c.args.text.now c.args.table.now (span c.args.text.now c.args.a c.args.e) _ (sym (c.same_bytes.ensures ∙ ap₂ same c.span-name.ensures c.span.ensures) ∙ c.if-same_bytes.false) ∙ c.loop-i.invariant
