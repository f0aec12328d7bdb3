-- Changed lines of printable ASCII, byte by byte.
use Rattle.std.specs.Prelude.{ℕ, ◌+◌, ◌-◌, List, [], ◌∷◌, ◌++◌, take, drop}
use Rattle.miette_style.specs.rules.Styles.{plain}
use Rattle.miette_labels.specs.rules.Answers.{Highlight}
use Rattle.miette_style.specs.views.Tokens.{RowToken, styled_tokens}
use Rattle.miette_columns.specs.rules.Cells.{Cell}
use Rattle.miette_columns.specs.views.Printable.{plain_cells}
use Rattle.miette_snippet_rules.specs.declared.line_bytes.LineText.{LineText}

-- the cell of the byte at an offset
abbrev pub byte_at : ℕ → Cell
byte_at offset = record { code = 32; start = offset; after = offset + 1; from = 0; until = 1 }

-- the cells of a line's text from an offset on
abbrev pub cells_past : LineText → ℕ → List Cell
cells_past text at = plain_cells at (at - text.start) (drop (at - text.start) text.bytes.now)

-- what bytes print in these pieces
abbrev pub pieces_told : List Highlight → List ℕ → List RowToken
pieces_told [] bytes = styled_tokens plain bytes
pieces_told (h ∷ hs) bytes = styled_tokens h.style (take h.bytes bytes) ++ pieces_told hs (drop h.bytes bytes)
