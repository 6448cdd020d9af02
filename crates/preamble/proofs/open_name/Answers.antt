use native.Mathlib.Omega.{arith}
use mathlib.Core.Path.{◌≡◌}
use mathlib.Core.Bool.{true, false}
use Rattle.pattern.specs.Table.{env}
use Rattle.preamble.proofs.Laws.{opening-adds, opening-sets, set-number, unset-number}
use Rattle.scan.specs.Bytes.{span}
use Rattle.preamble.specs.Preamble.{name_fault}
use Rattle.preamble.proofs.open_name.Goals as goal

pub overflow_sub-result : goal.overflow_sub-result
overflow_sub-result c =
    let name = span c.args.text.now c.args.start c.args.end in let p : name_fault (env c.args.text.now c.args.vars.now c.args.n) true name ≡ 0 = rw c.if-adds.true at c.requires in omega (arith, c.named-found.ensures, set-number c.args.text.now c.args.vars.now c.args.n name p)

pub returns-then-adds-clause-opening : goal.returns-then-adds-clause-opening
returns-then-adds-clause-opening c =
    let name = span c.args.text.now c.args.start c.args.end in let p : name_fault (env c.args.text.now c.args.vars.now c.args.n) true name ≡ 0 = rw c.if-adds.true at c.requires in rw c.if-adds.true (opening-adds c.args.text.now c.args.vars.now c.args.n name c.named-found.result p c.named-found.ensures)

pub overflow_add-result : goal.overflow_add-result
overflow_add-result c =
    let name = span c.args.text.now c.args.start c.args.end in let p : name_fault (env c.args.text.now c.args.vars.now c.args.n) false name ≡ 0 = rw c.if-adds.false at c.requires in omega (arith, (unset-number c.args.text.now c.args.vars.now c.args.n name p).1)

pub returns-clause-opening : goal.returns-clause-opening
returns-clause-opening c =
    let name = span c.args.text.now c.args.start c.args.end in let p : name_fault (env c.args.text.now c.args.vars.now c.args.n) false name ≡ 0 = rw c.if-adds.false at c.requires in rw c.if-adds.false (opening-sets c.args.text.now c.args.vars.now _ c.args.n c.args.start c.args.end p c.with_name.ensures)

pub returns-clause-few : goal.returns-clause-few
returns-clause-few c =
    let name = span c.args.text.now c.args.start c.args.end in let p : name_fault (env c.args.text.now c.args.vars.now c.args.n) false name ≡ 0 = rw c.if-adds.false at c.requires in λ _. omega (arith, (unset-number c.args.text.now c.args.vars.now c.args.n name p).1)
