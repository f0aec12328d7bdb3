use Rattle.std.proofs.Common.{◌≡◌, ◌++◌, map, drop}
use Rattle.miette_snippet_rules.specs.rules.LabelColumns.{underline_ends}
use Rattle.miette_snippet_rules.specs.views.MadeUnderlines.{underline_of}
use Rattle.miette_snippet_rules.proofs.label_columns.push_underline_ends.Given as goal

abbrev pub invariant-loop-mark : goal.invariant-loop-mark
invariant-loop-mark l = l.ends.items ++ underline_ends (map underline_of (drop l.mark-index l.marks))
    ≡ l.fn.ends.items ++ underline_ends (map underline_of l.marks)
