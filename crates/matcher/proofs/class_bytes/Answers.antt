use Rattle.std.proofs.Common.{rules, tests}
use mathlib.Core.Path.{◌≡◌}
use Prim.Native.Nat.{◌+◌, ◌-◌}
use native.Mathlib.Omega.{arith}
use lib.ListN.{drop}
use Rattle.scan.specs.Bytes.{run}
use Rattle.pattern.specs.Codes.{bracketed, not_close}
use Rattle.matcher.proofs.class_bytes.Goals as goal

pub returns : goal.returns
unfolding bracketed
returns c =
    let n = run not_close (drop c.args.at c.args.text.now) in
    let e : c.end_of.result ≡ c.args.at + n = c.end_of.ensures not_close (λ b r k h. search (rules, tests)) in
    let q : c.end_of.result - c.args.at ≡ n = omega arith in
    rw (c.span.ensures, q)
