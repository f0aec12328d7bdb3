-- The columns of a line at which labels begin, end or have a pointer. A long line is cut around these columns.
use Rattle.std.specs.Prelude.{ℕ, ◌-◌, List, [], ◌∷◌, ◌++◌, if◌then◌else◌}
use Rattle.miette_lines.specs.rules.Lines.{Line}
use Rattle.miette_labels.specs.rules.Labels.{DrawnLabel, starts_on, ends_on}
use Rattle.miette_snippet_rules.specs.rules.Underlines.{Underline, MeasuredText}
use Rattle.miette_snippet_rules.specs.rules.PrintedCells.{first_column, last_column}

-- the pointer's column, if the label has a text
abbrev pub pointer_ends : List (List ℕ) → ℕ → List ℕ
pointer_ends [] pointer = []
pointer_ends (part ∷ parts) pointer = pointer ∷ []

-- of each underline: its first column, its pointer if the label has a text, and its last column
abbrev pub underline_ends : List Underline → List ℕ
underline_ends [] = []
underline_ends (mark ∷ marks) =
    mark.from ∷ pointer_ends mark.label.parts mark.pointer ++ (mark.until - 1) ∷ underline_ends marks

-- of each multi-line label on a line: its first column if it begins there, its last column if it ends there
abbrev pub multi_line_ends : Line → MeasuredText → List DrawnLabel → List ℕ
multi_line_ends line text [] = []
multi_line_ends line text (label ∷ labels) =
    (if starts_on line label then first_column text.cells text.text_end text.width label.start ∷ []
    else if ends_on line label then (last_column text.cells text.text_end text.width label.after - 1) ∷ []
    else [])
    ++ multi_line_ends line text labels
