use borrow.Author.Tests.{le-leb}
use native.Mathlib.Omega.{arith}
use mathlib.Core.Path.{sym, ◌∙◌}
use lib.ListN.{length}
use Rattle.weigh.proofs.Laws.{gathered-far, gathered-fit, gathered-long}
use Rattle.weigh.proofs.findings_of.Goals as goal

pub returns-then-text-gt65535 : goal.returns-then-text-gt65535
returns-then-text-gt65535 c = c.no_findings.ensures c.args.text.now ∙ sym (gathered-long c.args.text.now _ _ c.args.count c.args.at.0 (omega arith))

pub returns-then-path-gt4095 : goal.returns-then-path-gt4095
returns-then-path-gt4095 c = c.no_findings-then-path-gt4095.ensures c.args.text.now ∙ sym (gathered-far c.args.text.now _ (record { path = c.args.path.now; owner = c.args.owner }) c.args.count c.args.at.0 (omega arith))

pub gather-requires : goal.gather-requires
gather-requires c =
    record {
      known = c.sizes_of-known.ensures;
      fits = record { short = omega arith; fits = le-leb (length c.args.path.now) 4095 (omega arith) };
    }

pub returns : goal.returns
returns c = c.gather.ensures ∙ sym (gathered-fit c.args.text.now _ (record { path = c.args.path.now; owner = c.args.owner }) c.args.count c.args.at.0 (record { short = omega arith; fits = le-leb (length c.args.path.now) 4095 (omega arith) }))
