use borrow.Author.Rules.{rules}
use Rattle.scan.specs.Bytes.{span}
use Rattle.sizes.specs.Numbered.{pattern_by}
use Rattle.glob.proofs.Laws.{tried-none, tried-more, tried-found}
use Rattle.glob.proofs.match_expansions.Goals as goal

pub loop-d-init : goal.loop-d-init
loop-d-init c = tried-none c.args.slash (pattern_by c.args.text.now c.args.vars.now c.args.n c.args.sizes.now (span c.args.text.now c.args.a c.args.e)) c.args.path.now

pub returns-then-m : goal.returns-then-m
returns-then-m c =
    let a = pattern_by c.args.text.now c.args.vars.now c.args.n c.args.sizes.now (span c.args.text.now c.args.a c.args.e) in
    rw (← c.pattern_size-count.ensures) (tried-found c.args.slash a c.args.path.now c.match_expansion-m.ensures c.pattern_size-count.result.count (search rules) c.if-m.true)

pub loop-d-preserved : goal.loop-d-preserved
loop-d-preserved c =
    let a = pattern_by c.args.text.now c.args.vars.now c.args.n c.args.sizes.now (span c.args.text.now c.args.a c.args.e) in
    tried-more c.args.slash a c.args.path.now c.match_expansion-m.ensures c.loop-d.invariant c.if-m.false
