use Rattle.std.proofs.Common.{inl, inr}
use Rattle.miette_tree.proofs.wrap_err.ResultIntoDiagnostic.into_diagnostic.Goals as goal

pub returns-in-Ok-of_display-clause-missing : goal.returns-in-Ok-of_display-clause-missing
returns-in-Ok-of_display-clause-missing g c = λ missing. inl (rw c.in-Err.is c.in-Ok-of_display.ensures)

pub returns-in-Err-of_display-clause-missing : goal.returns-in-Err-of_display-clause-missing
returns-in-Err-of_display-clause-missing g c = λ missing. inr c.from.ensures
