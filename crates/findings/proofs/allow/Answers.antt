use Rattle.findings.specs.Weighed.{allowing, seen_findings}
use Rattle.findings.proofs.allow.Goals as goal

pub returns : goal.returns
unfolding allowing seen_findings
returns c =
    λ i. record {
      allowed = c.carry.ensures.all i;
      allowed_audit = c.carry.ensures.audited i;
      denied = c.args.found.denied.all.0;
      denied_audit = c.args.found.denied.audited.0;
      exact = c.with_transition.ensures i;
      others = c.with_transition-2.ensures i;
    }
