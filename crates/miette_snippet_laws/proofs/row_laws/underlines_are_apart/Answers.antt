use Rattle.miette_snippet_laws.proofs.Apart.{marks_apart, own_anchor, own_anchors}
use Rattle.miette_snippet_laws.proofs.Whole.{row_apart}
use Rattle.miette_snippet_laws.specs.laws.LineRows.{underlines_of_line}
use Rattle.miette_snippet_rules.specs.rules.SnippetLayout.{cells_of}
use Rattle.miette_snippet_laws.proofs.row_laws.underlines_are_apart.Goals as goal

pub returns-clause-apart : goal.returns-clause-apart
returns-clause-apart c = marks_apart

pub returns-clause-anchors : goal.returns-clause-anchors
returns-clause-anchors c = own_anchor

pub returns-clause-row : goal.returns-clause-row
returns-clause-row c = row_apart

pub returns-clause-row_anchors : goal.returns-clause-row_anchors
returns-clause-row_anchors c = λ s labels source line. own_anchors
    (underlines_of_line s labels line (cells_of s source line)) (row_apart s labels source line)
