use mathlib.Core.Path.{ap, ◌∙◌}
use native.Mathlib.Omega.{arith}
use Rattle.perms.proofs.Laws.{or-unite}
use Rattle.perms.specs.declared.Perms.{Perms}
use Rattle.findings.proofs.carry.Goals as goal

pub returns-then-audit : goal.returns-then-audit
returns-then-audit c =
    record {
      all = ap (λ (p : Perms). p.0) (c.union-all.ensures ∙ or-unite c.args.carried.all c.args.perms (omega arith) (omega arith));
      audited = rw c.if-audit.true (ap (λ (p : Perms). p.0) (c.union.ensures ∙ or-unite c.args.carried.audited c.args.perms (omega arith) (omega arith)));
    }

pub returns : goal.returns
returns c =
    record {
      all = ap (λ (p : Perms). p.0) (c.union-all.ensures ∙ or-unite c.args.carried.all c.args.perms (omega arith) (omega arith));
      audited = rw c.if-audit.false;
    }
