use Rattle.std.proofs.Common.{rules}
use Rattle.miette_tree.specs.declared.tree.Report.{the_lemmas}
use Rattle.miette_tree.proofs.tree.Report.wrap_err_owned.Goals as goal

pub returns-in-Ok-chain_becomes_causes-clause-tree : goal.returns-in-Ok-chain_becomes_causes-clause-tree
returns-in-Ok-chain_becomes_causes-clause-tree g c = search (rules, the_lemmas)

pub returns-in-Ok-chain_becomes_causes-clause-held : goal.returns-in-Ok-chain_becomes_causes-clause-held
returns-in-Ok-chain_becomes_causes-clause-held g c = search (rules, the_lemmas)

pub returns-in-Err : goal.returns-in-Err
returns-in-Err g c = c.in-Err.ensures
