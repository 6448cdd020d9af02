use Rattle.profile.specs.Places.{seen_file}
use Rattle.profile.proofs.read.Goals as goal

pub returns-in-Ok : goal.returns-in-Ok
returns-in-Ok c = rw (← c.least.ensures) c.in-Ok.ensures

pub returns-in-Err-clause-result_after : goal.returns-in-Err-clause-result_after
unfolding seen_file
returns-in-Err-clause-result_after c = rw (← c.least.ensures, c.refusal_at.ensures) c.in-Err.ensures.result_after
