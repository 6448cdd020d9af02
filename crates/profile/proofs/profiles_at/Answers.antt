use native.Mathlib.Omega.{arith}
use Prim.Native.Nat.{◌<◌}
use mathlib.Core.Path.{sym, ◌∙◌}
use Rattle.std.proofs.lemmas.Result.{err_from_is_err_and}
use Rattle.pattern.specs.Table.{env}
use Rattle.profile.specs.Places.{seen_profiles}
use Rattle.profile.proofs.Laws.{kept-end, more, read-end, start, turn-left, turn-refused, turn-room}
use Rattle.profile.proofs.profiles_at.Goals as goal

pub loop-place-init : goal.loop-place-init
loop-place-init c =
    let vs = env c.args.text.now c.args.vars.now c.args.n in
    start vs c.args.text.now c.args.allowed c.args.at.0 c.no_profiles-profiles.result c.no_profiles-profiles.ensures

pub with_profile-profiles-requires : goal.with_profile-profiles-requires
with_profile-profiles-requires c =
    let vs = env c.args.text.now c.args.vars.now c.args.n in
    turn-room vs c.args.text.now c.loop-place.profiles c.loop-place.left c.loop-place.place.0 c.loop-place.invariant.low c.in_ok-p.p c.in_ok-p.ensures

pub overflow_sub-left : goal.overflow_sub-left
overflow_sub-left c =
    let vs = env c.args.text.now c.args.vars.now c.args.n in
    turn-left vs c.args.text.now c.loop-place.profiles c.loop-place.left c.loop-place.place.0 c.loop-place.invariant.low c.in_ok-p.p c.in_ok-p.ensures

pub loop-place-smaller : goal.loop-place-smaller
loop-place-smaller c =
    let vs = env c.args.text.now c.args.vars.now c.args.n in
    let h : c.loop-place.profiles.count < 32 = turn-room vs c.args.text.now c.loop-place.profiles c.loop-place.left c.loop-place.place.0 c.loop-place.invariant.low c.in_ok-p.p c.in_ok-p.ensures in
    omega (arith, c.with_profile-profiles.ensures.count)

pub loop-place-preserved : goal.loop-place-preserved
loop-place-preserved c =
    let vs = env c.args.text.now c.args.vars.now c.args.n in
    more vs c.args.text.now c.args.allowed c.args.at.0 c.loop-place.profiles c.loop-place.left c.loop-place.place.0 c.loop-place.invariant c.in_ok-p.p c.in_ok-p.ensures (sym c.ends_at.ensures ∙ c.loop-place-test.true) c.with_profile-profiles.ensures

pub returns-in_err-p-clause-result_value : goal.returns-in_err-p-clause-result_value
unfolding seen_profiles
returns-in_err-p-clause-result_value c =
    let vs = env c.args.text.now c.args.vars.now c.args.n in
    let p = err_from_is_err_and c.from_residual.result c.from_residual.ensures.1 in
    rw (p.1, p.2)
    (sym (turn-refused vs c.args.text.now c.loop-place.profiles c.loop-place.left c.loop-place.place.0 c.loop-place.invariant.low (sym c.ends_at.ensures ∙ c.loop-place-test.true) c.in_err-p.field-0.0 c.in_err-p.ensures) ∙ c.loop-place.invariant.read)

pub returns-clause-result_value : goal.returns-clause-result_value
unfolding seen_profiles
returns-clause-result_value c =
    let vs = env c.args.text.now c.args.vars.now c.args.n in
    sym (read-end vs c.args.text.now c.loop-place.profiles c.loop-place.left c.loop-place.place.0 (sym c.ends_at.ensures ∙ c.loop-place-test.false)) ∙ c.loop-place.invariant.read

pub returns-clause-kept : goal.returns-clause-kept
returns-clause-kept c =
    let vs = env c.args.text.now c.args.vars.now c.args.n in
    kept-end vs c.args.text.now c.args.allowed c.args.at.0 c.loop-place.profiles c.loop-place.left c.loop-place.place.0 c.loop-place.invariant
