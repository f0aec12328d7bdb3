-- The text of a line in code.
use Rattle.std.specs.Prelude.{List, false}
use Rattle.miette_columns.specs.rules.Cells.{Cell, cells_from, characters}
use Rattle.miette_columns.specs.rules.Widths.{width_of}
use Rattle.miette_snippet_rules.specs.declared.line_bytes.LineText.{LineText}

-- its cells
abbrev pub text_cells : LineText → List Cell
text_cells text = cells_from width_of text.tab false text.start 0 (characters text.bytes.now)
