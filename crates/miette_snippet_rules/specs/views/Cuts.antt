-- The parts of a cut line in code: numbers of cells, columns and bytes.
use Rattle.std.specs.Prelude.{ℕ, ◌+◌, List, [], ◌∷◌, ◌++◌, length, take, drop, Option, Some, None, if◌then◌else◌}
use Rattle.miette_style.specs.rules.Rows.{Run}
use Rattle.miette_labels.specs.rules.Answers.{Highlight}
use Rattle.miette_columns.specs.rules.Cells.{Cell}
use Rattle.miette_snippet_rules.specs.rules.PrintedCells.{line_runs}
use Rattle.miette_snippet_rules.specs.rules.CutLines.{LinePart, cell_bytes, columns_in, pieces_within}
use Rattle.miette_snippet_rules.specs.declared.line_part.LinePart.{LinePart as MadePart}

abbrev pub measure : LinePart → MadePart
measure s = record {
  shown = s.shown;
  cells = length s.cells;
  columns = columns_in s.cells;
  bytes = cell_bytes s.cells;
}

-- what is printed of a line with these parts, with this run for hidden ones
abbrev pub cut_cells : Run → List Highlight → ℕ → List MadePart → List Cell → List Run
cut_cells run pieces before [] cells = []
cut_cells run pieces before (s ∷ later) cells =
    (if s.shown then line_runs (pieces_within before s.bytes pieces) (take s.cells cells) else run ∷ [])
    ++ cut_cells run pieces (before + s.bytes) later (drop s.cells cells)

abbrev pub made_runs : Run → Option (List MadePart) → List Highlight → List Cell → List Run
made_runs run None pieces cells = line_runs pieces cells
made_runs run (Some cut) pieces cells = cut_cells run pieces 0 cut cells
