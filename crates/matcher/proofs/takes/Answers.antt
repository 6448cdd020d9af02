use mathlib.Core.Path.{sym, ap, ◌∙◌}
use mathlib.Core.List.{List}
use Prim.Native.Nat.{ℕ}
use native.Mathlib.Omega.{arith}
use Rattle.class.specs.Class.{in_class}
use Rattle.pattern.specs.Codes.{bracketed}
use Rattle.pattern.proofs.Codes.{decode-byte, decode-class}
use Rattle.matcher.proofs.Codes.{takes-stars, takes-other}
use Rattle.matcher.proofs.takes.Goals as goal

pub returns-then-code-lt-ONE : goal.returns-then-code-lt-ONE
returns-then-code-lt-ONE c = rw (decode-byte c.args.text.now c.args.code c.if-code-lt-ONE.true)

pub returns-then-code-eq-STAR_STAR : goal.returns-then-code-eq-STAR_STAR
returns-then-code-eq-STAR_STAR c = sym (takes-stars c.args.text.now c.args.code c.args.b c.if-code-eq-STAR_STAR.true)

pub returns-then-code-le-STAR : goal.returns-then-code-le-STAR
returns-then-code-le-STAR c = sym (takes-other c.args.text.now c.args.code c.args.b (omega arith) c.if-code-le-STAR.true)

pub returns : goal.returns
returns c =
    rw (decode-class c.args.text.now c.args.code (omega arith))
    (c.in_class.ensures ∙ ap (λ (s : List ℕ). in_class s c.args.b) (c.class_bytes.ensures ∙ ap (bracketed c.args.text.now) c.place-at.ensures))
