use mathlib.Core.Path.{◌≡◌, ◌∙◌}
use native.Mathlib.Omega.{arith}
use lib.ListN.{length}
use native.Mathlib.Nat.{le_refl}
use lib.Seq.{take-length}
use Rattle.pattern.specs.Codes.{decode}
use Rattle.matcher.proofs.Laws.{first_marks, more-pieces, dead}
use Rattle.matcher.proofs.walk_marks.Goals as goal

pub loop-code-init : goal.loop-code-init
loop-code-init g c = λ j h. first_marks g.row.N c.args.path.now j h (omega (arith, c.requires.room))

pub loop-code-preserved : goal.loop-code-preserved
loop-code-preserved g c =
    λ j h. c.in-Some.ensures j h
    ∙ more-pieces (decode c.args.text.now) c.args.codes.now c.loop-code.code-index (omega arith) c.args.path.now c.loop-code.marks c.loop-code.invariant j h

pub returns-in_default : goal.returns-in_default
returns-in_default g c =
    dead (decode c.args.text.now) c.args.codes.now c.loop-code.code-index (omega arith) c.args.path.now c.loop-code.marks c.loop-code.invariant (rw c.in_default.is at c.step.ensures)

pub returns : goal.returns
returns g c =
    let e : c.loop-code.code-index ≡ length c.args.codes.now = omega arith in
    c.loop-code.invariant (length c.args.path.now) (le_refl (length c.args.path.now)) ∙ rw (e, take-length c.args.path.now, take-length c.args.codes.now)
