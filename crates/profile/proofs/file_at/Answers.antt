use Rattle.std.proofs.lemmas.Result.{err_from_is_err_and}
use Rattle.profile.proofs.Laws.{file-kept, file-read, file-refused, profiles-refused}
use Rattle.profile.proofs.file_at.Goals as goal

pub returns-in_err-p-clause-result_after : goal.returns-in_err-p-clause-result_after
returns-in_err-p-clause-result_after c =
    let p = err_from_is_err_and c.from_residual.result c.from_residual.ensures.1 in
    rw (p.1, p.2) (file-refused c.args.allowed c.args.text.now _ c.in_err-p.field-0.0 c.in_err-p.ensures.result_after)

pub returns-in_err-ps-clause-result_after : goal.returns-in_err-ps-clause-result_after
returns-in_err-ps-clause-result_after c =
    let p = err_from_is_err_and c.from_residual-in_err-ps.result c.from_residual-in_err-ps.ensures.1 in
    rw (p.1, p.2) (profiles-refused c.args.allowed c.args.text.now _ c.in_ok-p.p c.in_ok-p.ensures.result_after c.in_err-ps.field-0.0 c.in_err-ps.ensures.result_value)

pub returns-clause-result_after : goal.returns-clause-result_after
returns-clause-result_after c = file-read c.args.allowed c.args.text.now _ c.in_ok-p.p c.in_ok-p.ensures.result_after c.in_ok-ps.ps c.in_ok-ps.ensures.result_value

pub returns-clause-kept : goal.returns-clause-kept
returns-clause-kept c = file-kept c.args.allowed c.args.text.now _ c.in_ok-p.p c.in_ok-p.ensures.result_after c.in_ok-ps.ps c.in_ok-ps.ensures.result_value c.in_ok-p.ensures.few c.in_ok-ps.ensures.kept
