use Rattle.std.proofs.Common.{ap, ◌∙◌}
use Rattle.miette_tree.specs.rules.Diagnosis.{plain_diagnosis}
use Rattle.miette_tree.specs.rules.Tree.{single_report}
use Rattle.miette_tree.proofs.tree.Report.copied.Goals as goal

pub returns-clause-tree : goal.returns-clause-tree
returns-clause-tree g c = c.built.ensures.tree ∙ ap (λ m. single_report (plain_diagnosis m)) c.in_ok-copy.ensures

pub returns-clause-kind : goal.returns-clause-kind
returns-clause-kind g c = (c.in_ok-copy.copy, c.in_ok-copy.ensures, c.built.ensures.kind)
