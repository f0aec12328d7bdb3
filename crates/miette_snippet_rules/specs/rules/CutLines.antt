-- Lines that exceed the limit: which cells are shown, where dots replace the others, and where the underlines are.
use Rattle.std.specs.Prelude.{ℕ, zero, suc, ◌+◌, ◌-◌, min, max, List, [], ◌∷◌, ◌++◌, map, length, Option, None, Some}
use Rattle.std.specs.Prelude.{Bool, not, true, false, ◌&&◌, ◌||◌, if◌then◌else◌, ◌==◌, nat_lt, nat_le}
use Rattle.std.specs.List.{list_any}
use Rattle.miette_style.specs.rules.Rows.{Glyph, Run}
use Rattle.miette_style.specs.rules.Themes.{Characters, Theme}
use Rattle.miette_labels.specs.rules.Answers.{Highlight}
use Rattle.miette_columns.specs.rules.Cells.{Cell}
use Rattle.miette_snippet_rules.specs.rules.Underlines.{Underline}
use Rattle.miette_snippet_rules.specs.rules.PrintedCells.{cells_width, line_runs, text_bytes}

-- ---- dots

-- What replaces hidden cells: one character if the frame characters are beyond ASCII, else three.
abbrev pub dot_codes : Characters → List ℕ
dot_codes c = if nat_lt c.vbar 0x80 then 46 ∷ 46 ∷ 46 ∷ [] else 0x2026 ∷ []

abbrev pub dot : ℕ → Glyph
dot code = record { code = code; columns = 1 }

-- the dots, in the style of line numbers
abbrev pub dots : Theme → Run
dots t = record { style = t.styles.linum; glyphs = map dot (dot_codes t.characters) }

-- the width of the dots in columns
abbrev pub dots_width : Characters → ℕ
dots_width c = length (dot_codes c)

-- ---- parts of a line

-- consecutive cells that are all shown or all hidden
pub record LinePart : Type 0 where
  pub shown : Bool
  pub cells : List Cell

abbrev pub agree : Bool → Bool → Bool
agree a b = if a then b else not b

-- a part in front of others; it joins the first of them if both are shown or both hidden
abbrev pub prepend_part : LinePart → List LinePart → List LinePart
prepend_part s [] = s ∷ []
prepend_part s (next ∷ later) =
    if agree s.shown next.shown then record { shown = s.shown; cells = s.cells ++ next.cells } ∷ later
    else s ∷ next ∷ later

-- a cell without columns is near if the previous cell is
abbrev pub is_near_after : (Cell → Bool) → Bool → Cell → Bool
is_near_after near before cell = if cell.from == cell.until then before else near cell

-- splits cells into near and other parts; the flag says whether the previous cell is near
abbrev pub line_parts : (Cell → Bool) → Bool → List Cell → List LinePart
line_parts near before [] = []
line_parts near before (cell ∷ cells) =
    prepend_part (record { shown = is_near_after near before cell; cells = cell ∷ [] })
    (line_parts near (is_near_after near before cell) cells)

abbrev pub columns_in : List Cell → ℕ
columns_in [] = 0
columns_in (cell ∷ cells) = (cell.until - cell.from) + columns_in cells

-- whether a part is shown: it is near, or no wider than `many` dots
abbrev pub is_part_shown : ℕ → LinePart → Bool
is_part_shown many s = s.shown || nat_le (columns_in s.cells) many

-- shows parts that are near or short, and joins adjacent ones
abbrev pub with_short_parts : ℕ → List LinePart → List LinePart
with_short_parts many [] = []
with_short_parts many (s ∷ later) =
    prepend_part (record { shown = is_part_shown many s; cells = s.cells }) (with_short_parts many later)

-- the width of a part in the row: its own, or that of the dots
abbrev pub row_columns : ℕ → LinePart → ℕ
row_columns many s = if s.shown then columns_in s.cells else many

-- the width of the row's text
abbrev pub text_columns : ℕ → List LinePart → ℕ
text_columns many [] = 0
text_columns many (s ∷ later) = row_columns many s + text_columns many later

-- ---- which cells are near

-- whether one of the cell's columns is at most `reach` columns away from this one
abbrev pub is_within : ℕ → Cell → ℕ → Bool
is_within reach cell column = nat_le cell.from (column + reach) && nat_lt column (cell.until + reach)

-- whether a cell is near one of these label columns
abbrev pub is_near : ℕ → List ℕ → Cell → Bool
is_near reach ends cell = list_any (is_within reach cell) ends

-- what is shown of a line with `reach` columns around its label columns
abbrev pub cut_at : ℕ → ℕ → List ℕ → List Cell → List LinePart
cut_at many reach ends cells = with_short_parts many (line_parts (is_near reach ends) false cells)

-- the largest number up to this one that passes a test, or 0
abbrev pub largest_passing : (ℕ → Bool) → ℕ → ℕ
largest_passing passes zero = 0
largest_passing passes (suc n) = if passes (suc n) then suc n else largest_passing passes n

-- The reach of a line: the largest number of columns, up to the limit, with which the row's text fits into the limit.
abbrev pub reach_of : ℕ → ℕ → List ℕ → List Cell → ℕ
reach_of limit many ends cells =
    largest_passing (λ reach. nat_le (text_columns many (cut_at many reach ends cells)) limit) limit

-- whether a cell and the dots after it fit into the limit
abbrev pub has_room : ℕ → ℕ → Cell → Bool
has_room limit many cell = nat_le (cell.until + many) limit

-- A line over the limit, cut. Without label columns its first cells are shown, as many as fit; else what is within its
-- reach.
abbrev pub cut_to : ℕ → ℕ → List ℕ → List Cell → List LinePart
cut_to limit many [] cells = with_short_parts many (line_parts (has_room limit many) false cells)
cut_to limit many (end ∷ ends) cells =
    cut_at many (reach_of limit many (end ∷ ends) cells) (end ∷ ends) cells

-- the reach of a line; the limit if it has no label columns
abbrev pub reach_at : ℕ → ℕ → List ℕ → List Cell → ℕ
reach_at limit many [] cells = limit
reach_at limit many (end ∷ ends) cells = reach_of limit many (end ∷ ends) cells

-- what is shown of a line with this reach; its first cells if it has no label columns
abbrev pub cut_by : ℕ → ℕ → ℕ → List ℕ → List Cell → List LinePart
cut_by limit many reach [] cells = cut_to limit many [] cells
cut_by limit many reach (end ∷ ends) cells = cut_at many reach (end ∷ ends) cells

-- limits below 8 count as 8, since a shorter row shows nothing useful
abbrev pub limit_of : ℕ → ℕ
limit_of limit = max 8 limit

-- The parts of a cut line, or `None` if the line fits or there is no limit.
abbrev pub cut_line : ℕ → Option ℕ → List ℕ → List Cell → Option (List LinePart)
cut_line many None ends cells = None
cut_line many (Some limit) ends cells =
    if nat_lt (limit_of limit) (cells_width 0 cells) then Some (cut_to (limit_of limit) many ends cells) else None

-- the same with a given reach
abbrev pub cut_line_by : ℕ → ℕ → ℕ → List ℕ → List Cell → Option (List LinePart)
cut_line_by many limit reach ends cells =
    if nat_lt (limit_of limit) (cells_width 0 cells) then Some (cut_by (limit_of limit) many reach ends cells) else None

-- ---- what is printed

-- the number of bytes of the cells
abbrev pub cell_bytes : List Cell → ℕ
cell_bytes [] = 0
cell_bytes (cell ∷ cells) = text_bytes cell.code + cell_bytes cells

-- the highlighter's pieces of the `bytes` bytes after the first `before`
abbrev pub pieces_within : ℕ → ℕ → List Highlight → List Highlight
pieces_within before bytes [] = []
pieces_within before bytes (h ∷ hs) =
    record { bytes = min (h.bytes - before) bytes; style = h.style }
    ∷ pieces_within (before - h.bytes) (bytes - (h.bytes - before)) hs

-- The parts of a line after its first `before` bytes: each shown part as it would be printed separately, each other one
-- as this run of dots. A piece of which nothing is hidden is one run.
abbrev pub cut_runs : Run → List Highlight → ℕ → List LinePart → List Run
cut_runs run pieces before [] = []
cut_runs run pieces before (s ∷ later) =
    (if s.shown then line_runs (pieces_within before (cell_bytes s.cells) pieces) s.cells else run ∷ [])
    ++ cut_runs run pieces (before + cell_bytes s.cells) later

abbrev pub shown_runs : Run → Option (List LinePart) → List Highlight → List Cell → List Run
shown_runs run None pieces cells = line_runs pieces cells
shown_runs run (Some cut) pieces cells = cut_runs run pieces 0 cut

-- ---- where the underlines are

-- whether the character at a column is shown; nothing is hidden after the last part
abbrev pub is_shown_at : List LinePart → ℕ → Bool
is_shown_at [] column = true
is_shown_at (s ∷ later) column =
    if nat_lt column (columns_in s.cells) then s.shown else is_shown_at later (column - columns_in s.cells)

-- The row column of a line column, relative to the start of these parts. Columns after the text stay after it. Hidden
-- columns map to the first dot.
abbrev pub row_column : ℕ → List LinePart → ℕ → ℕ
row_column many [] column = column
row_column many (s ∷ later) column =
    if nat_lt column (columns_in s.cells) then (if s.shown then column else 0)
    else row_columns many s + row_column many later (column - columns_in s.cells)

-- an underline with a hidden middle continues under the dots
abbrev pub row_underline : ℕ → List LinePart → Underline → Underline
row_underline many cut mark = record {
  from = row_column many cut mark.from;
  until = row_column many cut (mark.until - 1) + 1;
  pointer = row_column many cut mark.pointer;
  label = mark.label;
}

abbrev pub row_underlines : ℕ → Option (List LinePart) → List Underline → List Underline
row_underlines many None marks = marks
row_underlines many (Some cut) marks = map (row_underline many cut) marks
