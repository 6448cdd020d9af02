use mathlib.Core.Path.{◌≡◌, ◌∙◌}
use mathlib.Core.Bool.{true, false, ◌||◌}
use lib.Dec.{leb, ltb}
use lib.ListN.{length}
use Rattle.scan.specs.Bytes.{span}
use Rattle.text.proofs.Refusals.{seen-refused}
use Rattle.heads.specs.Places.{head_from}
use Rattle.heads.proofs.head_from.Goals as goal

pub returns-then-n-name : goal.returns-then-n-name
unfolding head_from
returns-then-n-name c =
    let e : (leb 32 c.args.n || ltb 255 (length (span c.args.text.now c.args.t.from.0 c.args.t.end.0))) ≡ true = (rw c.content-name.ensures at c.if-n-name.true) in
    rw (e, head_from)

pub returns-then-is_used : goal.returns-then-is_used
unfolding head_from
returns-then-is_used c =
    let e : (leb 32 c.args.n || ltb 255 (length (span c.args.text.now c.args.t.from.0 c.args.t.end.0))) ≡ false = (rw c.content-name.ensures at c.if-n-name.false) in
    rw (e, ← c.is_used.ensures, c.if-is_used.true, head_from)

pub returns-in_err-next : goal.returns-in_err-next
unfolding head_from
returns-in_err-next c =
    let e : (leb 32 c.args.n || ltb 255 (length (span c.args.text.now c.args.t.from.0 c.args.t.end.0))) ≡ false = (rw c.content-name.ensures at c.if-n-name.false) in
    seen-refused _ _ c.from_residual.ensures.1 ∙ rw (e, ← c.is_used.ensures, c.if-is_used.false, ← c.in_err-next.ensures, head_from)

pub returns : goal.returns
unfolding head_from
returns c =
    let e : (leb 32 c.args.n || ltb 255 (length (span c.args.text.now c.args.t.from.0 c.args.t.end.0))) ≡ false = (rw c.content-name.ensures at c.if-n-name.false) in
    rw (e, ← c.is_used.ensures, c.if-is_used.false, ← c.in_ok-next.ensures, head_from)
