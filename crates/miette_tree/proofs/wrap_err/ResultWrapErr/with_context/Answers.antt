use Rattle.std.proofs.Common.{rules}
use Rattle.miette_tree.proofs.wrap_err.ResultWrapErr.with_context.Goals as goal

pub returns-clause-missing : goal.returns-clause-missing
returns-clause-missing g c = search (rules)
