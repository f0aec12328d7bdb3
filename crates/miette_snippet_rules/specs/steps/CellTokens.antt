-- What the cells of a line print.
use Rattle.std.specs.Prelude.{List, map}
use Rattle.miette_style.specs.views.Tokens.{RowToken, text_tokens}
use Rattle.miette_snippet_rules.specs.rules.PrintedCells.{printed_cells}
use Rattle.miette_columns.specs.rules.Cells.{Cell}

-- what cells print, as tokens
abbrev pub cells_tokens : List Cell → List RowToken
cells_tokens cells = text_tokens (map (λ p. p.code) (printed_cells cells))
