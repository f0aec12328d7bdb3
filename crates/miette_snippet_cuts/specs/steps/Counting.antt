-- The width of a row's text, counted cell by cell up to a limit.
use Rattle.std.specs.Prelude.{ℕ, ◌≡◌, ◌+◌, ◌-◌, ◌≤◌, min, List, [], ◌∷◌, Bool, if◌then◌else◌, ◌==◌}
use Rattle.miette_columns.specs.rules.Cells.{Cell}
use Rattle.miette_snippet_cuts.specs.declared.counting.Count.{Count}

-- The width of a row's text after `passed` hidden columns. Hidden parts count as at most `dots` columns.
abbrev pub columns_from : ℕ → (Cell → Bool) → ℕ → List Cell → ℕ
columns_from dots near passed [] = min passed dots
columns_from dots near passed (cell ∷ cells) =
    if cell.from == cell.until then columns_from dots near passed cells
    else if near cell then min passed dots + ((cell.until - cell.from) + columns_from dots near 0 cells)
    else columns_from dots near (passed + (cell.until - cell.from)) cells

-- counts more columns, of cells that are near or not
abbrev pub counted : ℕ → Bool → ℕ → Count → Count
counted dots near columns count =
    if near then record { shown = count.shown + (min count.passed dots + columns); passed = 0 }
    else record { shown = count.shown; passed = count.passed + columns }

-- the columns counted so far and those of the remaining cells
abbrev pub whole_count : ℕ → (Cell → Bool) → Count → List Cell → ℕ
whole_count dots near count cells = count.shown + columns_from dots near count.passed cells

-- If the shown columns are within the limit, the count is exact. It is never less than the shown columns.
pub record IsCounted (limit : ℕ) (count : Count) (left whole : ℕ) : Type 0 where
  pub all : count.shown ≤ limit → left ≡ whole
  pub within : count.shown ≤ whole
