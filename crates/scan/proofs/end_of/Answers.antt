use native.Mathlib.Omega.{arith}
use mathlib.Core.Path.{refl, sym, ◌∙◌}
use lib.ListN.{get_or}
use Rattle.std.proofs.Common.{rules, tests}
use Rattle.scan.proofs.Laws.{run_more, run-stop, run_whole}
use Rattle.scan.proofs.end_of.Goals as goal

pub loop-i-init : goal.loop-i-init
loop-i-init g c p told = refl

pub returns-then-not-takes : goal.returns-then-not-takes
returns-then-not-takes g c p told =
    omega (arith, run-stop p c.args.s.now c.loop-i.i (omega arith) (sym (told (get_or c.args.s.now c.loop-i.i 0) c.takes.result (search rules) c.takes.ensures) ∙ search (rules, tests)), c.loop-i.invariant p told)

pub loop-i-preserved : goal.loop-i-preserved
loop-i-preserved g c p told =
    omega (arith, run_more p c.args.s.now c.loop-i.i (omega arith) (sym (told (get_or c.args.s.now c.loop-i.i 0) c.takes.result (search rules) c.takes.ensures) ∙ search (rules, tests)), c.loop-i.invariant p told)

pub returns : goal.returns
returns g c p told = c.max.ensures ∙ run_whole p c.args.s.now c.args.at c.loop-i.i (search rules) c.loop-i.auto.i-end (c.loop-i.invariant p told)
