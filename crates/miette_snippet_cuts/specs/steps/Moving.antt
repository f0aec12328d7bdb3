-- How far the code has gone through the parts of a line.
use Rattle.std.specs.Prelude.{ℕ, ◌≡◌, ◌+◌, ◌-◌, ◌≤◌, List, drop}
use Rattle.miette_snippet_rules.specs.declared.line_part.LinePart.{LinePart}
use Rattle.miette_snippet_cuts.specs.declared.row_columns.RowCursor.{RowCursor}
use Rattle.miette_snippet_cuts.specs.steps.LineParts.{made_column}

-- from the position on, the remaining parts give the right row columns; `dots` is the width of the dots
pub record IsRowCursor (dots : ℕ) (cut : List LinePart) (place : RowCursor) : Type 0 where
  pub stand : (column : ℕ) → place.before ≤ column →
      made_column dots cut column ≡ place.row + made_column dots (drop place.passed cut) (column - place.before)
