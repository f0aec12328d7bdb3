use Rattle.std.proofs.Common.{rules}
use Rattle.miette_tree.proofs.tree.Report.with_diagnostic_cause.Goals as goal

pub returns-in-Err-clause-err : goal.returns-in-Err-clause-err
returns-in-Err-clause-err g c = search (rules)
