use native.Mathlib.Omega.{arith}
use mathlib.Core.Path.{◌≡◌}
use Prim.Native.Nat.{ℕ, ◌+◌, ◌<◌}
use mathlib.Core.List.{List}
use lib.ListN.{drop, get_or}
use Rattle.std.proofs.lemmas.Grind.{common_steps}
use Rattle.scan.specs.Bytes.{span}
use Rattle.pattern.specs.Reads.{class_after, use_after}
use Rattle.pattern.specs.Places.{part_at}
use Rattle.pattern.proofs.Laws.{class-at, use-at, escape-read, star-read, single-read}
use Rattle.parts.proofs.part_at.Goals as goal

-- what stands in a span fits a byte
bytes : (text : List ℕ) (a e : ℕ) (s : List ℕ) → s ≡ span text a e → ((k : ℕ) → get_or text k 0 < 256) → (k : ℕ) → get_or s k 0 < 256
bytes text a e s w h k = grind (arith, common_steps, h (a + k))

pub returns-then-b-eq92 : goal.returns-then-b-eq92
returns-then-b-eq92 c = rw (← c.span-s.ensures, c.escape_at.ensures) (escape-read c.span-s.result.now c.args.i (omega arith) c.args.text.now (bytes _ _ _ _ c.span-s.ensures (λ k. (c.type_inv.text k).fits)) c.if-b-eq92.true)

pub returns-then-b-eq42 : goal.returns-then-b-eq42
returns-then-b-eq42 c = rw (← c.span-s.ensures, c.star_at.ensures) (star-read c.span-s.result.now c.args.i (omega arith) c.args.text.now (bytes _ _ _ _ c.span-s.ensures (λ k. (c.type_inv.text k).fits)) c.if-b-eq42.true)

pub returns-then-b-eq91 : goal.returns-then-b-eq91
returns-then-b-eq91 c =
    let q : part_at (span c.args.text.now c.args.a c.args.e) c.args.i ≡ class_after (drop (c.args.i + 1) (span c.args.text.now c.args.a c.args.e)) = rw (← c.span-s.ensures) (class-at c.span-s.result.now c.args.i (omega arith) c.if-b-eq91.true) in rw q c.class_at.ensures

pub returns-then-b-begins_at : goal.returns-then-b-begins_at
returns-then-b-begins_at c =
    let q : part_at (span c.args.text.now c.args.a c.args.e) c.args.i ≡ use_after (drop (c.args.i + 1) (span c.args.text.now c.args.a c.args.e)) = rw (← c.span-s.ensures) (use-at c.span-s.result.now c.args.i (omega arith) (rw c.begins_at.ensures at c.if-b-begins_at.true)) in rw q c.use_at.ensures

pub returns : goal.returns
returns c = rw (← c.span-s.ensures, c.single.ensures) (single-read c.span-s.result.now c.args.i (omega arith) c.args.text.now (bytes _ _ _ _ c.span-s.ensures (λ k. (c.type_inv.text k).fits)) c.if-b-eq92.false c.if-b-eq42.false c.if-b-eq91.false (rw c.begins_at.ensures at c.if-b-begins_at.false))
