-- Joining parts, and the row columns of a line's columns and underlines.
use Rattle.std.specs.Prelude.{ℕ, ◌+◌, ◌-◌, List, [], ◌∷◌, Bool, ◌||◌, if◌then◌else◌, nat_lt, nat_le}
use Rattle.miette_columns.specs.rules.Cells.{Cell}
use Rattle.miette_snippet_rules.specs.rules.PrintedCells.{text_bytes}
use Rattle.miette_snippet_rules.specs.rules.CutLines.{agree}
use Rattle.miette_snippet_rules.specs.declared.line_part.LinePart.{LinePart as MadePart}
use Rattle.miette_snippet_rules.specs.declared.underlines.Underline.{Underline as MadeUnderline}

abbrev pub lone : Bool → Cell → MadePart
lone shown cell = record { shown = shown; cells = 1; columns = cell.until - cell.from; bytes = text_bytes cell.code }

-- `many` cells of one column and one byte each, all shown or all hidden
abbrev pub even : Bool → ℕ → MadePart
even shown many = record { shown = shown; cells = many; columns = many; bytes = many }

-- a cell of one column, this one
abbrev pub cell_at : ℕ → Cell
cell_at column = record { code = 32; start = 0; after = 1; from = column; until = column + 1 }

-- a part joined with the next one
abbrev pub join_parts : MadePart → MadePart → MadePart
join_parts s next = record {
  shown = s.shown;
  cells = s.cells + next.cells;
  columns = s.columns + next.columns;
  bytes = s.bytes + next.bytes;
}

abbrev pub prepend_made : MadePart → List MadePart → List MadePart
prepend_made s [] = s ∷ []
prepend_made s (next ∷ later) = if agree s.shown next.shown then join_parts s next ∷ later else s ∷ next ∷ later

-- a part that is also shown if it is no wider than `many` dots
abbrev pub kept_made : ℕ → MadePart → MadePart
kept_made many s = record {
  shown = s.shown || nat_le s.columns many;
  cells = s.cells;
  columns = s.columns;
  bytes = s.bytes;
}

-- shows parts that are near or short, and joins adjacent ones
abbrev pub made_with_short : ℕ → List MadePart → List MadePart
made_with_short many [] = []
made_with_short many (s ∷ later) = prepend_made (kept_made many s) (made_with_short many later)

-- the width of a part in the row
abbrev pub made_columns : ℕ → MadePart → ℕ
made_columns many s = if s.shown then s.columns else many

-- the row column of a line column
abbrev pub made_column : ℕ → List MadePart → ℕ → ℕ
made_column many [] column = column
made_column many (s ∷ later) column =
    if nat_lt column s.columns then (if s.shown then column else 0)
    else made_columns many s + made_column many later (column - s.columns)

abbrev pub made_underline : ℕ → List MadePart → MadeUnderline → MadeUnderline
made_underline many cut mark = record {
  from = made_column many cut mark.from;
  until = made_column many cut (mark.until - 1) + 1;
  pointer = made_column many cut mark.pointer;
  label = mark.label;
}
