use Rattle.miette_snippet_rules.proofs.line_underlines.ColumnMap.last_column.Goals as goal

pub returns : goal.returns
returns c = c.column_of.ensures
