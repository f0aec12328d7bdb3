-- A walk over the characters of a line's text.
use Rattle.std.specs.Prelude.{ℕ, ◌≡◌, true, List, ◌++◌, length}
use Rattle.std.specs.List.{list_all}
use Rattle.miette_columns.specs.declared.cells.Cell.{Cell as MadeCell}
use Rattle.miette_columns.specs.declared.cells.PlainCells.{PlainCells}
use Rattle.miette_columns.specs.rules.Cells.{Cell}
use Rattle.miette_columns.specs.views.Printable.{is_printable, plain_cells}

-- a cell as a value of the rules
abbrev pub cell_of : MadeCell → Cell
cell_of c = record { code = c.code; start = c.start; after = c.after; from = c.from; until = c.until }

-- the first cells are printable ASCII, and `later` follow
pub record ComeFirst (first : PlainCells) (cells later : List Cell) : Type 0 where
  pub bytes : List ℕ
  pub printable : list_all is_printable bytes ≡ true
  pub many : length bytes ≡ first.many
  pub cells_are : cells ≡ plain_cells first.start first.from bytes ++ later
