-- A scan over the cells of a line.
use Rattle.std.specs.Prelude.{ℕ, ◌≡◌, ◌<◌, ◌≤◌, List, [], ◌∷◌}
use Rattle.miette_columns.specs.rules.Cells.{Cell}
use Rattle.miette_snippet_rules.specs.rules.PrintedCells.{first_column, last_column}
use Rattle.miette_snippet_rules.specs.declared.line_scan.LineScan.{LineScan}

-- each cell has a byte, and begins where the previous one ends or later
abbrev pub ComeFrom : ℕ → List Cell → Type 0
ComeFrom at [] = Unit {0}
ComeFrom at (cell ∷ cells) = (at ≤ cell.start) × (cell.start < cell.after) × ComeFrom cell.after cells

-- from an offset on, both lists of cells give the same columns
abbrev pub SameFrom : ℕ → List Cell → List Cell → Type 0
SameFrom at left cells = (text_end width offset : ℕ) → at ≤ offset →
    (first_column left text_end width offset ≡ first_column cells text_end width offset)
    × (last_column left text_end width offset ≡ last_column cells text_end width offset)

-- after the scanned cells, the remaining cells give the right columns
pub record HasScanned (cells : List Cell) (passage : LineScan) : Type 0 where
  pub same : SameFrom passage.reached passage.walk cells
  pub come : ComeFrom passage.reached passage.walk
