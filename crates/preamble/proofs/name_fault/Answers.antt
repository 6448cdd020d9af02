use borrow.Author.Tests.{eq-eqb, ne_eqb, le-leb, lt-leb}
use Rattle.preamble.proofs.Laws.{fault-number}
use Rattle.scan.specs.Bytes.{span}
use Rattle.preamble.proofs.name_fault.Goals as goal

pub returns-then-number-eq0 : goal.returns-then-number-eq0
returns-then-number-eq0 c =
    let k : _ = fault-number c.args.text.now c.args.vars.now c.args.n (span c.args.text.now c.args.start c.args.end) c.args.adds in
    rw (k, ← c.named-number.ensures, c.if-adds.true, eq-eqb _ _ c.if-number-eq0.true)

pub returns-then-adds : goal.returns-then-adds
returns-then-adds c =
    let k : _ = fault-number c.args.text.now c.args.vars.now c.args.n (span c.args.text.now c.args.start c.args.end) c.args.adds in
    rw (k, ← c.named-number.ensures, c.if-adds.true, ne_eqb _ _ c.if-number-eq0.false)

pub returns-then-number-ne0 : goal.returns-then-number-ne0
returns-then-number-ne0 c =
    let k : _ = fault-number c.args.text.now c.args.vars.now c.args.n (span c.args.text.now c.args.start c.args.end) c.args.adds in
    rw (k, ← c.named-number.ensures, c.if-adds.false, ne_eqb _ _ c.if-number-ne0.true)

pub returns-then-n-ge32 : goal.returns-then-n-ge32
returns-then-n-ge32 c =
    let k : _ = fault-number c.args.text.now c.args.vars.now c.args.n (span c.args.text.now c.args.start c.args.end) c.args.adds in
    rw (k, ← c.named-number.ensures, c.if-adds.false, eq-eqb _ _ c.if-number-ne0.false, le-leb _ _ c.if-n-ge32.true)

pub returns : goal.returns
returns c =
    let k : _ = fault-number c.args.text.now c.args.vars.now c.args.n (span c.args.text.now c.args.start c.args.end) c.args.adds in
    rw (k, ← c.named-number.ensures, c.if-adds.false, eq-eqb _ _ c.if-number-ne0.false, lt-leb _ _ c.if-n-ge32.false)
