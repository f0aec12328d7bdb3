-- The columns at which multi-line labels begin or end, label by label.
use Rattle.std.specs.Prelude.{ℕ, ◌-◌, List, [], ◌∷◌, Bool, ◌||◌, if◌then◌else◌}
use Rattle.miette_lines.specs.rules.Lines.{Line}
use Rattle.miette_labels.specs.declared.placed.PlacedLabel.{PlacedLabel}
use Rattle.miette_labels.specs.rules.Labels.{DrawnLabel, starts_on, ends_on}
use Rattle.miette_labels.specs.views.ProgramLabels.{drawn_of}
use Rattle.miette_snippet_rules.specs.rules.Underlines.{MeasuredText}
use Rattle.miette_snippet_rules.specs.rules.PrintedCells.{first_column, last_column}

-- whether a label begins or ends on a line
abbrev pub has_end : Line → PlacedLabel → Bool
has_end line label = starts_on line (drawn_of label) || ends_on line (drawn_of label)

-- the column at which a label begins or ends on a line
abbrev pub multi_line_end : Line → MeasuredText → DrawnLabel → List ℕ
multi_line_end line text label =
    if starts_on line label then first_column text.cells text.text_end text.width label.start ∷ []
    else if ends_on line label then (last_column text.cells text.text_end text.width label.after - 1) ∷ []
    else []
