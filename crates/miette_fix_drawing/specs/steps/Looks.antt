-- The visible text of a line.
use Rattle.std.specs.Prelude.{ℕ, ◌-◌, List, [], ◌∷◌, replicate, if◌then◌else◌, ◌==◌, ◌||◌}
use Rattle.std.specs.Char.{is_whitespace}
use Rattle.miette_columns.specs.rules.Cells.{Cell}

-- what is visible of a character
abbrev pub seen_of_cell : Cell → List ℕ
seen_of_cell cell =
    if cell.code == 9 || is_whitespace cell.code then replicate (cell.until - cell.from) 32
    else if cell.from == cell.until then []
    else cell.code ∷ []
