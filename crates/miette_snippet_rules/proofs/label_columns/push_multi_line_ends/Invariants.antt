use Rattle.std.proofs.Common.{◌≡◌, ◌++◌, map, drop}
use Rattle.miette_lines.specs.views.Walking.{line_of_text}
use Rattle.miette_labels.specs.views.ProgramLabels.{drawn_of}
use Rattle.miette_snippet_rules.specs.rules.LabelColumns.{multi_line_ends}
use Rattle.miette_snippet_rules.proofs.label_columns.push_multi_line_ends.Given as goal

abbrev pub invariant-loop-label : goal.invariant-loop-label
invariant-loop-label l =
    l.ends.items ++ multi_line_ends (line_of_text l.line) l.columns (map drawn_of (drop l.label-index l.labels))
    ≡ l.fn.ends.items ++ multi_line_ends (line_of_text l.line) l.columns (map drawn_of l.labels)
