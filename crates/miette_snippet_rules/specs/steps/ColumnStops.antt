-- Stops in a line's text, from which columns are found.
use Rattle.std.specs.Prelude.{ℕ, ◌≡◌, ◌≤◌, ◌+◌, ◌-◌, Bool, List, if◌then◌else◌, nat_le, nat_lt}
use Rattle.miette_columns.specs.declared.cells.Cell.{Cell as MadeCell}
use Rattle.miette_columns.specs.rules.Cells.{Cell}
use Rattle.miette_snippet_rules.specs.rules.PrintedCells.{first_column, last_column}
use Rattle.miette_snippet_rules.specs.declared.line_underlines.Rounding.{Rounding}
use Rattle.miette_snippet_rules.specs.declared.line_underlines.Rounding.TheVariants.{Down, Up}
use Rattle.miette_snippet_rules.specs.declared.line_underlines.ColumnStop.{ColumnStop}

-- the column of an offset, rounded as asked
abbrev pub column_in : Rounding → List Cell → ℕ → ℕ → ℕ → ℕ
column_in Down = first_column
column_in Up = last_column

-- whether the cell's first column is the answer, if no earlier cell gives it
abbrev pub stops_at : Rounding → MadeCell → ℕ → Bool
stops_at Down cell offset = nat_lt offset cell.after
stops_at Up cell offset = nat_le offset cell.start

-- the column of an offset from a stop: in its printable ASCII, or after it
abbrev pub column_from : Rounding → ColumnStop → ℕ → ℕ → ℕ → ℕ
column_from rounding stop text_end width offset =
    if nat_lt (offset - stop.plain.start) stop.plain.many then stop.plain.from + (offset - stop.plain.start)
    else column_in rounding stop.walk text_end width offset

-- the column found from the stop is the right one
abbrev pub IsStopFor : List Cell → ColumnStop → ℕ → Type 0
IsStopFor cells stop offset = (rounding : Rounding) (text_end width : ℕ) →
    column_from rounding stop text_end width offset ≡ column_in rounding cells text_end width offset

-- that holds for all offsets from the stop on
abbrev pub IsStop : List Cell → ColumnStop → Type 0
IsStop cells stop = (offset : ℕ) → stop.offset ≤ offset → IsStopFor cells stop offset
