use mathlib.Core.Bool.{false}
use Rattle.scan.specs.Bytes.{span}
use Rattle.front.proofs.Laws.{lead-some}
use Rattle.glob.proofs.Laws.{judged-none, judged-good, judged-bad}
use Rattle.glob.proofs.Begun.match_judged.Goals as goal

pub returns-then-pattern_fault-eq0 : goal.returns-then-pattern_fault-eq0
returns-then-pattern_fault-eq0 c = judged-good c.sizes_of-sizes.ensures (span c.args.self.text.now c.args.self.a c.args.self.e) c.args.self.path.now (lead-some false (span c.args.self.text.now c.args.self.a c.args.self.e) c.args.self.path.now c.args.self.begins) c.match_behind-m.ensures c.pattern_fault.ensures c.args.self.fits c.if-pattern_fault-eq0.true

pub returns-else-pattern_fault-eq0 : goal.returns-else-pattern_fault-eq0
returns-else-pattern_fault-eq0 c = judged-bad c.sizes_of-sizes.ensures (span c.args.self.text.now c.args.self.a c.args.self.e) c.args.self.path.now (lead-some false (span c.args.self.text.now c.args.self.a c.args.self.e) c.args.self.path.now c.args.self.begins) c.match_behind-m.ensures c.pattern_fault.ensures c.if-pattern_fault-eq0.false

pub returns-else-m : goal.returns-else-m
returns-else-m c = judged-none c.sizes_of-sizes.ensures (span c.args.self.text.now c.args.self.a c.args.self.e) c.args.self.path.now (lead-some false (span c.args.self.text.now c.args.self.a c.args.self.e) c.args.self.path.now c.args.self.begins) c.match_behind-m.ensures c.if-m.false
