use Rattle.std.proofs.Common.{rules}
use Rattle.miette_tree.proofs.tree.Report.built.Goals as goal

pub returns-clause-tree : goal.returns-clause-tree
returns-clause-tree g c = search (rules)

pub returns-clause-kind : goal.returns-clause-kind
returns-clause-kind g c = search (rules)
