use Rattle.entries.proofs.Laws.{judged-accepted, judged-long, judged-refused, judged-short}
use Rattle.entries.proofs.judge.Goals as goal

pub returns-then-head-lt-HEAD : goal.returns-then-head-lt-HEAD
returns-then-head-lt-HEAD c = judged-short c.args.text.now c.args.head.now c.args.rooms c.if-head-lt-HEAD.true

pub returns-then-text-gt65535 : goal.returns-then-text-gt65535
returns-then-text-gt65535 c =
    rw c.nowhere.ensures (judged-long c.args.text.now c.args.head.now c.args.rooms c.if-head-lt-HEAD.false c.if-text-gt65535.true)

pub returns-in-Err : goal.returns-in-Err
returns-in-Err c = judged-refused c.args.text.now c.args.head.now c.args.rooms c.if-head-lt-HEAD.false c.if-text-gt65535.false _ c.read.result c.read.ensures.result_after c.in-Err.refusal c.in-Err.is

pub returns : goal.returns
returns c = judged-accepted c.args.text.now c.args.head.now c.args.rooms c.if-head-lt-HEAD.false c.if-text-gt65535.false _ c.read.result c.read.ensures.result_after c.in-Ok.f c.in-Ok.is c.in-Ok.ensures.kept c.keep.ensures.variables c.keep.ensures.names _ c.keep.ensures.all
