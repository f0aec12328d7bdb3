use Rattle.std.proofs.Common.{rules}
use Rattle.miette_tree.specs.declared.tree.Report.{the_lemmas}
use Rattle.miette_tree.proofs.tree.Report.with_cause_texts.Goals as goal

pub returns-clause-tree : goal.returns-clause-tree
returns-clause-tree g c = search (rules, the_lemmas)
