use Rattle.std.proofs.Common.{Some, refl}
use Rattle.miette_tree.proofs.wrap_err.ResultWrapErr.wrap_err_with.Goals as goal

pub returns-in-Err-clause-missing : goal.returns-in-Err-clause-missing
returns-in-Err-clause-missing g c = λ missing.
    let report_of = c.report_under_by.ensures in
    (Some report_of.0, rw c.in-Err.is (report_of.0, report_of.1, refl), report_of.2)
