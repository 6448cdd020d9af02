use mathlib.Core.Path.{sym, ap, ◌∙◌}
use mathlib.Core.List.{List}
use Prim.Native.Nat.{ℕ}
use lib.Dec.{eqb}
use lib.ListN.{length}
use Rattle.scan.specs.Bytes.{span}
use Rattle.pattern.specs.Table.{env}
use Rattle.glob.specs.Glob.{Hit}
use Rattle.glob.proofs.Laws.{unmatched}
use Rattle.glob.proofs.Direct.{direct-matched}
use Rattle.glob.proofs.Begun.match_told.Goals as goal

pub returns-in-Miss : goal.returns-in-Miss
returns-in-Miss c = unmatched c.args.self.text.now (env c.args.self.text.now c.args.vars.now c.args.n) (span c.args.self.text.now c.args.self.a c.args.self.e) c.args.self.path.now (c.told-t.ensures.miss (env c.args.self.text.now c.args.vars.now c.args.n) c.in-Miss.is)

pub returns-in-Hit : goal.returns-in-Hit
returns-in-Hit c =
    let h : Hit (env c.args.self.text.now c.args.vars.now c.args.n) (span c.args.self.text.now c.args.self.a c.args.self.e) c.args.self.path.now c.args.self.led.len = c.told-t.ensures.hit (env c.args.self.text.now c.args.vars.now c.args.n) c.in-Hit.is in
    direct-matched c.args.self.text.now (env c.args.self.text.now c.args.vars.now c.args.n) (span c.args.self.text.now c.args.self.a c.args.self.e) c.args.self.path.now c.args.self.fits h.good h.some (h.exact ∙ ap (λ (s : List ℕ). eqb c.args.self.led.len (length s)) (sym c.span.ensures))
