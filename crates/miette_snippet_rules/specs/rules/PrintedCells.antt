-- How the characters of a line are printed, and at which columns.
use Rattle.std.specs.Prelude.{ℕ, ◌+◌, ◌-◌, List, [], ◌∷◌, ◌++◌, replicate, if◌then◌else◌, ◌==◌, nat_lt, nat_le}
use Rattle.miette_style.specs.rules.Rows.{Glyph, Run}
use Rattle.miette_style.specs.rules.Styles.{plain}
use Rattle.miette_labels.specs.rules.Answers.{Highlight}
use Rattle.miette_columns.specs.rules.Cells.{Cell}

-- the column of an offset, rounded down to the start of a character; at the text's end its width, after it one more
abbrev pub first_column : List Cell → ℕ → ℕ → ℕ → ℕ
first_column [] text_end text_width offset = if nat_le offset text_end then text_width else text_width + 1
first_column (cell ∷ cells) text_end text_width offset =
    if nat_lt offset cell.after then cell.from else first_column cells text_end text_width offset

-- the same, rounded up
abbrev pub last_column : List Cell → ℕ → ℕ → ℕ → ℕ
last_column [] text_end text_width offset = if nat_le offset text_end then text_width else text_width + 1
last_column (cell ∷ cells) text_end text_width offset =
    if nat_le offset cell.start then cell.from else last_column cells text_end text_width offset

-- how a cell is printed: a tab becomes spaces
abbrev pub printed_glyphs : Cell → List Glyph
printed_glyphs cell =
    if cell.code == 9 then replicate (cell.until - cell.from) (record { code = 32; columns = 1 })
    else record { code = cell.code; columns = cell.until - cell.from } ∷ []

abbrev pub printed_cells : List Cell → List Glyph
printed_cells [] = []
printed_cells (cell ∷ cells) = printed_glyphs cell ++ printed_cells cells

-- the width of a line in columns
abbrev pub cells_width : ℕ → List Cell → ℕ
cells_width column [] = column
cells_width column (cell ∷ cells) = cells_width cell.until cells

-- the number of bytes of a character
abbrev pub text_bytes : ℕ → ℕ
text_bytes code = if nat_lt code 0x80 then 1 else if nat_lt code 0x800 then 2 else if nat_lt code 0x10000 then 3 else 4

-- the cells that take up `bytes` bytes, and those after them
abbrev pub cells_within : ℕ → List Cell → List Cell
cells_within bytes [] = []
cells_within bytes (cell ∷ cells) = if bytes == 0 then [] else cell ∷ cells_within (bytes - text_bytes cell.code) cells

abbrev pub cells_beyond : ℕ → List Cell → List Cell
cells_beyond bytes [] = []
cells_beyond bytes (cell ∷ cells) = if bytes == 0 then cell ∷ cells
    else cells_beyond (bytes - text_bytes cell.code) cells

-- a line in a highlighter's pieces, each a length in bytes and a style; text after the last piece is plain
abbrev pub line_runs : List Highlight → List Cell → List Run
line_runs [] cells = record { style = plain; glyphs = printed_cells cells } ∷ []
line_runs (h ∷ hs) cells = record { style = h.style; glyphs = printed_cells (cells_within h.bytes cells) }
    ∷ line_runs hs (cells_beyond h.bytes cells)
