-- Codes as characters without sequences, and their width.
use Rattle.std.specs.Prelude.{ℕ, List, [], map, sum_by}
use Rattle.miette_runs.specs.rules.Cells.{TaggedChar, width}

abbrev pub plain_cell : ℕ → TaggedChar
plain_cell c = record { tags = []; code = c }

abbrev pub bare_cells : List ℕ → List TaggedChar
bare_cells = map plain_cell

abbrev pub code_columns : List ℕ → ℕ
code_columns = sum_by width
