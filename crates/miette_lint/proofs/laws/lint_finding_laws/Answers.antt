use Rattle.miette_lint.proofs.CodedLabels.{coded_labels}
use Rattle.miette_lint.proofs.laws.lint_finding_laws.Goals as goal

pub returns : goal.returns
returns c = record { labels = coded_labels }
