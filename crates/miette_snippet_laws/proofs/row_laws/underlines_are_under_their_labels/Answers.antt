use Rattle.miette_snippet_rules.specs.rules.SnippetLayout.{cells_of}
use Rattle.miette_snippet_laws.proofs.LabelUnderlines.{stand_at, stand_past, stand_under}
use Rattle.miette_snippet_laws.proofs.RowCounts.{labels_are}
use Rattle.miette_snippet_laws.proofs.row_laws.underlines_are_under_their_labels.Goals as goal

pub returns-clause-labels : goal.returns-clause-labels
returns-clause-labels c = λ s labels source line. labels_are s labels line (cells_of s source line)

pub returns-clause-under : goal.returns-clause-under
returns-clause-under c = stand_under

pub returns-clause-past : goal.returns-clause-past
returns-clause-past c = stand_past

pub returns-clause-characters : goal.returns-clause-characters
returns-clause-characters c = stand_at
