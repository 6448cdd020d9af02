use Prim.Native.Nat.{ℕ}
use mathlib.Core.Path.{sym, ap, ◌∙◌}
use mathlib.Core.List.{List}
use Rattle.std.proofs.lemmas.Result.{err_from_is_err_and}
use native.Mathlib.Nat.{min-eq_right}
use lib.Dec.{leb}
use Rattle.pattern.specs.Table.{env}
use Rattle.rule.specs.Rules.{rules_at}
use Rattle.statement.specs.Steps.{counted}
use Rattle.faults.proofs.Laws.{faults-known}
use Rattle.heads.specs.Places.{names_of}
use Rattle.profile.specs.Places.{seen_profile}
use Rattle.profile.proofs.Laws.{by-head-refused, by-rules-good, by-rules-refused}
use Rattle.profile.proofs.profile_at.Goals as goal

pub returns-in_err-head : goal.returns-in_err-head
unfolding seen_profile
returns-in_err-head c =
    let vs = env c.args.text.now c.args.vars.now c.args.n in
    let used = names_of c.args.text.now c.args.table.now c.args.k in
    let p = err_from_is_err_and c.from_residual.result c.from_residual.ensures.1 in
    rw (p.1, p.2)
    (sym (by-head-refused (leb 32 c.args.k) c.args.left used vs c.args.text.now c.args.at.0 c.in_err-head.field-0.0 (rw (min-eq_right c.requires.k_bound) at c.in_err-head.ensures)))

pub returns-in_err-read : goal.returns-in_err-read
unfolding seen_profile
returns-in_err-read c =
    let vs = env c.args.text.now c.args.vars.now c.args.n in
    let used = names_of c.args.text.now c.args.table.now c.args.k in
    let p = err_from_is_err_and c.from_residual-in_err-read.result c.from_residual-in_err-read.ensures.1 in
    rw (p.1, p.2)
    (sym (by-rules-refused (leb 32 c.args.k) c.args.left used vs c.args.text.now c.args.at.0 c.in_ok-head.head (rw (min-eq_right c.requires.k_bound) at c.in_ok-head.ensures) c.in_err-read.field-0.0 (c.in_err-read.ensures ∙ ap (λ (f : List ℕ → ℕ). counted (rules_at c.args.left f c.args.text.now c.in_ok-head.head.next.0)) (faults-known c.requires.known))))

pub returns : goal.returns
unfolding seen_profile
returns c =
    let vs = env c.args.text.now c.args.vars.now c.args.n in
    let used = names_of c.args.text.now c.args.table.now c.args.k in
    sym (by-rules-good (leb 32 c.args.k) c.args.left used vs c.args.text.now c.args.at.0 c.in_ok-head.head (rw (min-eq_right c.requires.k_bound) at c.in_ok-head.ensures) c.in_ok-read.read.count c.in_ok-read.read.next (c.in_ok-read.ensures ∙ ap (λ (f : List ℕ → ℕ). counted (rules_at c.args.left f c.args.text.now c.in_ok-head.head.next.0)) (faults-known c.requires.known)))
