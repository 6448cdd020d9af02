use Rattle.findings.specs.Weighed.{denying, seen_choice, seen_findings}
use Rattle.findings.proofs.deny.Goals as goal

pub returns : goal.returns
unfolding denying seen_findings
returns c =
    λ i. record {
      allowed = c.args.found.allowed.all.0;
      allowed_audit = c.args.found.allowed.audited.0;
      denied = c.carry.ensures.all i;
      denied_audit = c.carry.ensures.audited i;
      exact = seen_choice c.args.text.now c.args.found.exact;
      others = seen_choice c.args.text.now c.args.found.others;
    }
