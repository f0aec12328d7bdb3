-- Cut lines: which cells are shown, where dots and underlines are, and how wide a row can be.
use Rattle.std.specs.Prelude.{ℕ, ◌+◌, ◌-◌, ◌*◌, ◌<◌, ◌≤◌, ◌≡◌, ◌≢◌, List, [], ◌∷◌, ◌++◌, map, Bool, if◌then◌else◌}
use Rattle.std.specs.Prelude.{nat_lt}
use Rattle.std.specs.Prelude.{Option, Some, None, true, false}
use Rattle.std.specs.List.{AllByRecursion}
use Rattle.miette_columns.specs.rules.Cells.{Cell}
use Rattle.miette_labels.specs.rules.Contexts.{contents, lines_of_contents}
use Rattle.miette_style.specs.rules.Rows.{Glyph, Run}
use Rattle.miette_snippet_rules.specs.rules.CutLines.{LinePart, cut_at, has_room, is_part_shown, is_near, is_shown_at}
use Rattle.miette_snippet_rules.specs.rules.CutLines.{limit_of, is_near_after, text_columns}
use Rattle.miette_snippet_rules.specs.rules.Underlines.{Underline}
use Rattle.miette_snippet_rules.specs.rules.PrintedCells.{printed_cells, cells_width}
use Rattle.miette_snippet_rules.specs.rules.SnippetSettings.{SnippetSettings}
use Rattle.miette_snippet_rules.specs.rules.SnippetLayout.{cells_of}
use Rattle.miette_protocol.specs.rules.Reading.{Source, Span}

-- ---- which cells are shown

-- cells, each with whether it is near; the flag says whether the previous cell is
abbrev pub by_nearness : (Cell → Bool) → Bool → List Cell → List (Cell × Bool)
by_nearness near before [] = []
by_nearness near before (cell ∷ cells) =
    (cell, is_near_after near before cell) ∷ by_nearness near (is_near_after near before cell) cells

-- the cells of parts, each with whether its part is shown
abbrev pub by_line_part : List LinePart → List (Cell × Bool)
by_line_part [] = []
by_line_part (s ∷ later) = map (λ cell. (cell, s.shown)) s.cells ++ by_line_part later

-- the cells of parts, each with whether its part is shown or no wider than `many` columns
abbrev pub by_kept : ℕ → List LinePart → List (Cell × Bool)
by_kept many [] = []
by_kept many (s ∷ later) = map (λ cell. (cell, is_part_shown many s)) s.cells ++ by_kept many later

-- parts aren't empty, and shown and hidden parts alternate
abbrev pub AreLineParts : List LinePart → Type 0
AreLineParts [] = Unit {0}
AreLineParts (s ∷ []) = s.cells ≢ []
AreLineParts (s ∷ next ∷ later) = (s.cells ≢ []) × (s.shown ≢ next.shown) × AreLineParts (next ∷ later)

-- How a line is cut, given which cells are near, with dots `many` columns wide. The cells form near and other parts.
-- The cut contains each cell once and in order. A cell is shown if its part is near or no wider than the dots. Shown
-- and hidden parts alternate.
pub record IsCutBy (near : Cell → Bool) (many : ℕ) (cells : List Cell) (cut : List LinePart) : Type 0 where
  pub parts : List LinePart
  pub nearness : by_line_part parts ≡ by_nearness near false cells
  pub parted : AreLineParts parts
  pub shown : by_line_part cut ≡ by_kept many parts
  pub joined : AreLineParts cut

-- one of the cell's columns is at most `reach` columns away from this one
pub record IsCellWithin (reach : ℕ) (cell : Cell) (column : ℕ) : Type 0 where
  pub own : ℕ
  pub first : cell.from ≤ own
  pub last : own < cell.until
  pub before : own ≤ column + reach
  pub after : column ≤ own + reach

-- Whether a cell is near: within `reach` columns of a label column. Without label columns, whether it fits with the
-- dots.
abbrev pub is_near_by : ℕ → ℕ → ℕ → List ℕ → Cell → Bool
is_near_by limit many reach [] cell = has_room limit many cell
is_near_by limit many reach (end ∷ ends) cell = is_near reach (end ∷ ends) cell

-- `reach` is the largest number of columns, up to the limit, with which the row's text fits into the limit.
pub record IsReach (limit many : ℕ) (ends : List ℕ) (cells : List Cell) (reach : ℕ) : Type 0 where
  pub bounded : reach ≤ limit
  pub fits : 0 < reach → text_columns many (cut_at many reach ends cells) ≤ limit
  pub largest : (more : ℕ) → reach < more → more ≤ limit → limit < text_columns many (cut_at many more ends cells)

-- a line is cut by its reach
pub record IsCutByReach (limit many : ℕ) (ends : List ℕ) (cells : List Cell) (cut : List LinePart) : Type 0 where
  pub reach : ℕ
  pub is_reach : ends ≢ [] → IsReach limit many ends cells reach
  pub is_cut : IsCutBy (is_near_by limit many reach ends) many cells cut
  pub shown : AllByRecursion (λ column. is_shown_at cut column ≡ true) ends

-- ---- what is printed

-- what parts print: shown ones their cells, each other one this run of dots
abbrev pub pieces_shown : Run → List LinePart → List Glyph
pieces_shown run [] = []
pieces_shown run (s ∷ later) = (if s.shown then printed_cells s.cells else run.glyphs) ++ pieces_shown run later

-- What is at a column: its character and the offset into that character. After the last character: none, and the
-- distance from it.
abbrev pub glyph_at : List Glyph → ℕ → Option Glyph × ℕ
glyph_at [] column = (None, column)
glyph_at (g ∷ glyphs) column =
    if nat_lt column g.columns then (Some g, column) else glyph_at glyphs (column - g.columns)

-- a column of a cut line's row prints what is at a column of the whole line
abbrev pub IsSameAt : Run → List Cell → List LinePart → ℕ → ℕ → Type 0
IsSameAt run cells cut column row = glyph_at (pieces_shown run cut) row ≡ glyph_at (printed_cells cells) column

-- An underline of the whole line is moved into the row of the cut line. Its first column, its last column and the
-- pointer of its text keep their characters. So does each of its shown columns.
pub record IsMoved (run : Run) (cells : List Cell) (cut : List LinePart) (mark moved : Underline) : Type 0 where
  pub first : IsSameAt run cells cut mark.from moved.from
  pub pointer : mark.label.parts ≢ [] → IsSameAt run cells cut mark.pointer moved.pointer
  pub last : IsSameAt run cells cut (mark.until - 1) (moved.until - 1)
  pub shown : (column : ℕ) → mark.from ≤ column → column < mark.until → is_shown_at cut column ≡ true →
      (row : ℕ) × (moved.from ≤ row) × (row < moved.until) × IsSameAt run cells cut column row
  pub label : moved.label ≡ mark.label

-- each underline of one list is moved to the one at the same index of the other
abbrev pub AreMoved : Run → List Cell → List LinePart → List Underline → List Underline → Type 0
AreMoved run cells cut [] [] = Unit {0}
AreMoved run cells cut [] (moved ∷ more) = ⊥
AreMoved run cells cut (mark ∷ marks) [] = ⊥
AreMoved run cells cut (mark ∷ marks) (moved ∷ more) =
    IsMoved run cells cut mark moved × AreMoved run cells cut marks more

-- ---- how wide a row is

-- each cell has at most `widest` columns
abbrev pub AreAsWide : ℕ → List Cell → Type 0
AreAsWide widest [] = Unit {0}
AreAsWide widest (cell ∷ cells) = (cell.until - cell.from ≤ widest) × AreAsWide widest cells

-- The most columns that `ends` label columns need: the widest cell and dots for each, and dots at the end.
abbrev pub most_columns : ℕ → ℕ → ℕ → ℕ
most_columns many widest ends = ends * (widest + many) + many

-- ---- lines that fit

-- a line fits into the limit, if there is one; limits below 8 count as 8
abbrev pub FitsLimit : Option ℕ → List Cell → Type 0
FitsLimit None cells = Unit {0}
FitsLimit (Some limit) cells = cells_width 0 cells ≤ limit_of limit

-- all lines of the groups fit into the limit
abbrev pub GroupsFit : SnippetSettings → Source → List Span → Type 0
GroupsFit s source groups = AllByRecursion (λ group. AllByRecursion
    (λ line. FitsLimit s.layout.line_columns (cells_of s source.bytes line))
    (lines_of_contents (contents s.layout.context_lines source group))) groups
