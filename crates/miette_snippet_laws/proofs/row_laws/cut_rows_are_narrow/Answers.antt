use Rattle.miette_snippet_laws.proofs.CutLaws.{rows_narrow}
use Rattle.miette_snippet_laws.proofs.EndColumns.{ends_few}
use Rattle.miette_snippet_laws.proofs.Whole.{line_columns}
use Rattle.miette_snippet_rules.specs.rules.SnippetLayout.{cells_of}
use Rattle.miette_snippet_laws.proofs.row_laws.cut_rows_are_narrow.Goals as goal

pub returns-clause-bound : goal.returns-clause-bound
returns-clause-bound c = rows_narrow

pub returns-clause-ends : goal.returns-clause-ends
returns-clause-ends c = λ s source line many widest ends wide.
    ends_few many widest ends (cells_of s source line) (line_columns s source line) wide
