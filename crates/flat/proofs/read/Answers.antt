use Rattle.std.proofs.Common.{Option, Some, None, Result, Err}
use Rattle.std.specs.Option.{IsSome}
use Rattle.entries.specs.declared.Next.{Next}
use Prim.Native.Nat.{ℕ, ◌+◌, ◌*◌, ◌≤◌}
use Rattle.entries.specs.Ahead.{Judged, one_of, rest_from}
use Rattle.entries.specs.declared.Unread.{Unread}
use Rattle.flat.proofs.Filling.{filled-not, filling-start, filling-one, filling-next, filling-end}
use Rattle.flat.specs.Filled.{FilledIn}
use Rattle.flat.specs.Layout.{room_in}
use Rattle.flat.proofs.Walk.{records-room}
use borrow.Author.Rules.{rules}
use lib.ListN.{length}
use mathlib.Core.List.{List}
use mathlib.Core.Path.{◌≡◌, refl, ap, ◌∙◌}
use native.Mathlib.Omega.{arith}
use Rattle.flat.proofs.read.Goals as goal

filled-same : (s m m' : List ℕ) (rooms : ℕ) (e : Unread) → Judged s m rooms (Err e) m' → rooms ≡ room_in (length m) → (r : Result ℕ Unread) → r ≡ Err e → FilledIn s m r m'
filled-same s m m' rooms e j room r q = rw q (filled-not s m m' rooms e j room)

pub returns-in_err-n : goal.returns-in_err-n
returns-in_err-n c = filled-same c.args.text.now c.args.memory.now c.judge.new.head c.room_in-rooms.result c.in_err-n.field-0.0 c.in_err-n.ensures c.room_in-rooms.ensures c.from_residual.result (search rules)

pub overflow_mul-i : goal.overflow_mul-i
overflow_mul-i c = omega (arith, records-room (length c.args.memory.now) (room_in (length c.args.memory.now)) c.loop-i.i (omega arith) (omega (arith, c.room_in-rooms.ensures, c.in_ok-n.ensures.fits)))

pub loop-i-init : goal.loop-i-init
loop-i-init c = rw c.start-at.ensures (filling-start c.args.text.now c.judge.new.head)

pub unwrap-one-requires : goal.unwrap-one-requires
unwrap-one-requires c = go c.next_record.result refl
  where
    go : (r : Option Next) → c.next_record.result ≡ r → IsSome r
    go (Some v) e = refl
    go None e =
        absurd (filling-one c.args.text.now c.args.memory.now c.judge.new.head c.loop-i.memory c.room_in-rooms.result c.in_ok-n.n c.loop-i.i c.loop-i.at c.in_ok-n.ensures c.loop-i.invariant (omega arith)
        (c.next_record.ensures ∙ ap (one_of c.args.text.now (rest_from c.args.text.now c.loop-i.memory)) e))

pub loop-i-preserved : goal.loop-i-preserved
loop-i-preserved c =
    let size : length c.judge.new.head ≡ length c.args.memory.now = search rules in
    let fits : 1256 + 12 * c.loop-i.i + 12 ≤ length c.judge.new.head = omega (arith, size, records-room (length c.args.memory.now) (room_in (length c.args.memory.now)) c.loop-i.i (omega arith) (omega (arith, c.room_in-rooms.ensures, c.in_ok-n.ensures.fits))) in
    filling-next c.args.text.now c.judge.new.head c.loop-i.memory c.loop-i.i c.loop-i.at c.loop-i.invariant c.store.new.memory c.unwrap-one.result fits (c.next_record.ensures ∙ ap (one_of c.args.text.now (rest_from c.args.text.now c.loop-i.memory)) c.unwrap-one.ensures) c.store.ensures.pasted c.store.ensures.back

pub returns : goal.returns
returns c =
    let size : length c.judge.new.head ≡ length c.args.memory.now = search rules in
    let e : c.loop-i.i ≡ c.in_ok-n.n = omega arith in
    filling-end c.args.text.now c.args.memory.now c.judge.new.head c.loop-i.memory c.room_in-rooms.result c.in_ok-n.n c.loop-i.at c.in_ok-n.ensures (rw e at c.loop-i.invariant) c.room_in-rooms.ensures size
