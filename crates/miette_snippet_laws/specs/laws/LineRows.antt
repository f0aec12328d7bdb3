-- What the rows of a line show at their columns, and when a connector leads to a label text.
use Rattle.std.specs.Prelude.{ℕ, ◌+◌, ◌<◌, ◌≡◌, ◌⊎◌, List, [], ◌∷◌, map, Some, ◌&&◌, if◌then◌else◌, nat_lt, nat_le}
use Rattle.std.specs.Prelude.{◌-◌, ◌++◌, decimal, drop, length, replicate}
use Rattle.std.specs.List.{AllByRecursion}
use Rattle.miette_style.specs.rules.Rows.{Glyph, Row, glyphs_of, glyph_columns, glyph_of, code_at, Begins}
use Rattle.miette_lines.specs.rules.Lines.{Line}
use Rattle.miette_columns.specs.rules.Cells.{Cell}
use Rattle.miette_labels.specs.rules.Labels.{DrawnLabel, one_line, multi_line, closing_labels}
use Rattle.miette_snippet_rules.specs.rules.CutLines.{dots, dots_width, shown_runs, row_underlines}
use Rattle.miette_snippet_rules.specs.rules.Underlines.{Underline}
use Rattle.miette_snippet_rules.specs.rules.LabelRows.{underline_code}
use Rattle.miette_snippet_rules.specs.rules.Frames.{number_width}
use Rattle.miette_protocol.specs.rules.Reading.{Contents}
use Rattle.miette_labels.specs.rules.Answers.{Highlight, first_of}
use Rattle.miette_labels.specs.rules.Contexts.{lines_of_contents}
use Rattle.miette_snippet_rules.specs.rules.Gutters.{gutter_columns}
use Rattle.miette_snippet_rules.specs.rules.SnippetLayout.{line_rows, line_underlines, line_cut, cells_of}
use Rattle.miette_style.specs.rules.Themes.{Characters}
use Rattle.miette_snippet_rules.specs.rules.SnippetLayout.{SnippetContext, snippet_context}
use Rattle.miette_snippet_rules.specs.rules.SnippetSettings.{SnippetSettings}

-- what is at a column of the underline row
abbrev pub underline_glyph_at : SnippetSettings → List Underline → ℕ → Glyph
underline_glyph_at s [] column = glyph_of s.width 32
underline_glyph_at s (mark ∷ marks) column =
    if nat_le mark.from column && nat_lt column mark.until then
    glyph_of s.width (underline_code s.theme.characters mark column)
    else underline_glyph_at s marks column

-- where the last underline ends
abbrev pub underlines_end : ℕ → List Underline → ℕ
underlines_end reached [] = reached
underlines_end reached (mark ∷ marks) = underlines_end mark.until marks

-- A connector leads from a column to a text: going down, the column has bars until the corner, and the text begins four
-- columns after it.
abbrev pub ConnectsFrom : Characters → ℕ → List Glyph → List (List Glyph) → Type 0
ConnectsFrom t column part [] = ⊥
ConnectsFrom t column part (row ∷ rows) =
    ((code_at row column ≡ Some t.lbot) × Begins row (column + 4) part)
    ⊎ ((code_at row column ≡ Some t.vbar) × ConnectsFrom t column part rows)

-- a connector leads from the pointer to the first line of the label text, if there is one
abbrev pub PartIsConnected : SnippetSettings → List (List Glyph) → ℕ → List (List ℕ) → Type 0
PartIsConnected s rows column [] = Unit {0}
PartIsConnected s rows column (part ∷ parts) = ConnectsFrom s.theme.characters column (map (glyph_of s.width) part) rows

abbrev pub IsConnected : SnippetSettings → List (List Glyph) → ℕ → Underline → Type 0
IsConnected s rows start mark = PartIsConnected s rows (start + mark.pointer) mark.label.parts

-- the underlines of a line, by the columns of its row
abbrev pub underlines_of_line : SnippetSettings → List DrawnLabel → Line → List Cell → List Underline
underlines_of_line s labels line cells =
    row_underlines (dots_width s.theme.characters) (line_cut s line cells (one_line line labels)
    (multi_line line labels))
    (line_underlines line cells (one_line line labels))

-- the shown text of a line
abbrev pub text_of_line : SnippetSettings → List DrawnLabel → Line → List Cell → List Highlight → Row
text_of_line s labels line cells pieces =
    shown_runs (dots s.theme) (line_cut s line cells (one_line line labels) (multi_line line labels)) pieces cells

-- where the text of the rows begins
abbrev pub text_start : ℕ → ℕ → ℕ
text_start w columns = w + 4 + columns

-- a statement about the rows after the first
abbrev pub OfRowsBelow : (List Row → Type 0) → List Row → Type 0
OfRowsBelow P [] = ⊥
OfRowsBelow P (row ∷ rows) = P rows

-- The rows below the number row: the underline row has each underline in its columns and ends with the last one.
-- Connectors lead to the label texts below it.
abbrev pub AreUnderlined : SnippetSettings → ℕ → List Underline → List Row → Type 0
AreUnderlined s start marks [] = ⊥
AreUnderlined s start marks (row ∷ rows) =
    ((column : ℕ) → column < underlines_end 0 marks →
    code_at (glyphs_of row) (start + column) ≡ Some (underline_glyph_at s marks column).code)
    × (glyph_columns (glyphs_of row) ≡ start + underlines_end 0 marks)
    × AllByRecursion (IsConnected s (map glyphs_of rows) start) marks

abbrev pub ShowUnderlines : SnippetSettings → ℕ → List Underline → List Row → Type 0
ShowUnderlines s start [] rows = Unit {0}
ShowUnderlines s start (mark ∷ marks) rows = OfRowsBelow (AreUnderlined s start (mark ∷ marks)) rows

-- the text of a number row begins at a column
abbrev pub HasText : ℕ → Row → List Row → Type 0
HasText start text [] = ⊥
HasText start text (row ∷ rows) = Begins (glyphs_of row) start (glyphs_of text)

-- what comes before the gutter of a number row: a space, the number at the right of `w` columns, and a bar
abbrev pub number_codes : ℕ → ℕ → ℕ → List ℕ
number_codes bar w number = 32 ∷ (replicate (w - length (decimal number)) 32 ++ decimal number ++ 32 ∷ bar ∷ 32 ∷ [])

-- The first row has the line's number, a gutter of `columns` columns, and the text.
abbrev pub IsNumbered : SnippetSettings → ℕ → ℕ → ℕ → Row → List Row → Type 0
IsNumbered s w columns number text [] = ⊥
IsNumbered s w columns number text (row ∷ rows) =
    (gutter : List Glyph)
    × (glyphs_of row ≡ map (glyph_of s.width) (number_codes s.theme.characters.vbar w number) ++ gutter ++ glyphs_of text)
    × (glyph_columns gutter ≡ columns)

-- the number of rows of label texts: one for each line of text
abbrev pub count_text_rows : List DrawnLabel → ℕ
count_text_rows [] = 0
count_text_rows (label ∷ labels) = length label.parts + count_text_rows labels

-- the same with the underline row, if there is a label
abbrev pub rows_with_marks : List DrawnLabel → ℕ
rows_with_marks [] = 0
rows_with_marks (label ∷ labels) = 1 + count_text_rows (label ∷ labels)

-- the number of rows of a line: its own, those of its one-line labels, and those of the texts of multi-line labels that
-- end there
abbrev pub many_rows : Line → List DrawnLabel → ℕ
many_rows line labels =
    1 + rows_with_marks (one_line line labels) + count_text_rows (closing_labels line (multi_line line labels))

-- The rows of a line: its number comes first, its text begins at a fixed column, and connectors lead from its
-- underlines to the label texts. Each line of a label text has one row, and there are no other rows.
pub record LineShows (c : SnippetContext) (line : Line) (number : ℕ) (pieces : List Highlight) : Type 0 where
  pub numbered : IsNumbered c.settings c.number_width c.gutter number
      (text_of_line c.settings c.labels line (c.cells line) pieces) (line_rows c line number pieces)
  pub text : HasText (text_start c.number_width c.gutter) (text_of_line c.settings c.labels line (c.cells line) pieces)
      (line_rows c line number pieces)
  pub marks : ShowUnderlines c.settings (text_start c.number_width c.gutter)
      (underlines_of_line c.settings c.labels line (c.cells line)) (line_rows c line number pieces)
  pub count : length (line_rows c line number pieces) ≡ many_rows line c.labels

-- the same for lines numbered from here on
abbrev pub LinesShow : SnippetContext → ℕ → List (List Highlight) → List Line → Type 0
LinesShow c number pieces [] = Unit {0}
LinesShow c number pieces (line ∷ lines) =
    LineShows c line number (first_of pieces) × LinesShow c (number + 1) (drop 1 pieces) lines

-- the same for the lines of a snippet's read
abbrev pub BodyShows : SnippetSettings → List DrawnLabel → List ℕ → Contents → List (List Highlight) → Type 0
BodyShows s labels source read pieces =
    LinesShow (snippet_context s (number_width read) (gutter_columns labels (lines_of_contents read)) labels
    (cells_of s source)) (read.line + 1) pieces (lines_of_contents read)
