-- What the rows of changed and unchanged lines show, also if the lines are cut.
use Rattle.std.specs.Prelude.{ℕ, ◌+◌, ◌<◌, ◌≡◌, ◌≢◌, true, List, ◌++◌, map, Option, Some, None}
use Rattle.std.specs.List.{AllByRecursion}
use Rattle.miette_columns.specs.rules.Cells.{Cell}
use Rattle.miette_style.specs.rules.Rows.{Glyph, Run, glyph_of, glyphs_of}
use Rattle.miette_snippet_rules.specs.rules.CutLines.{LinePart, dots, dots_width, has_room, is_shown_at, limit_of}
use Rattle.miette_snippet_rules.specs.rules.PrintedCells.{cells_width, printed_cells}
use Rattle.miette_snippet_rules.specs.rules.SnippetSettings.{SnippetSettings}
use Rattle.miette_snippet_laws.specs.laws.Cuts.{FitsLimit, IsCutBy, is_near_by, pieces_shown}
use Rattle.miette_snippet_laws.specs.laws.LineRows.{number_codes}
use Rattle.miette_fix_rows.specs.rules.DiffFrames.{DiffPosition}
use Rattle.miette_fix_rows.specs.rules.DiffRows.{ChangedLine, changed_cut, changed_text_row, kept_row, pair_reach}
use Rattle.miette_fix_rows.specs.rules.DiffTexts.{line_cells, line_ends}

-- the cells of a changed line, and the columns around which it is cut
abbrev pub changed_cells : SnippetSettings → ChangedLine → List Cell
changed_cells s line = line_cells s line.start line.text

abbrev pub changed_ends : SnippetSettings → ChangedLine → List ℕ
changed_ends s line = line_ends s line.start line.text line.spans

-- what is printed of a line: its cells, or the parts of a cut line, with this run of dots for those that are hidden
abbrev pub shown_glyphs : Run → Option (List LinePart) → List Cell → List Glyph
shown_glyphs run None cells = printed_cells cells
shown_glyphs run (Some cut) cells = pieces_shown run cut

-- The cells within the pair's reach are shown, or the first cells if no edit is in the line. Every end of an edit is.
pub record IsCutBeside (s : SnippetSettings) (limit : ℕ) (line : ChangedLine) (other : Option ChangedLine)
    (cut : List LinePart) : Type 0 where
  pub is_cut : IsCutBy (is_near_by (limit_of limit) (dots_width s.theme.characters) (pair_reach s limit line other)
      (changed_ends s line)) (dots_width s.theme.characters) (changed_cells s line) cut
  pub ends : AllByRecursion (λ column. is_shown_at cut column ≡ true) (changed_ends s line)

-- The first row of a changed line: its number, its sign in place of the bar, and what is shown of its text.
abbrev pub IsChangedRow : SnippetSettings → ℕ → ChangedLine → Option ChangedLine → Type 0
IsChangedRow s w line other = glyphs_of (changed_text_row s w line other)
    ≡ map (glyph_of s.width) (number_codes line.sign w line.number)
    ++ shown_glyphs (dots s.theme) (changed_cut s line other) (changed_cells s line)

-- The row of an unchanged line: its number, and its text. A wide line is cut to its first cells.
pub record IsKeptRow (s : SnippetSettings) (w : ℕ) (at : DiffPosition) (text : List ℕ) : Type 0 where
  pub cut : Option (List LinePart)
  pub row : glyphs_of (kept_row s w at text)
      ≡ map (glyph_of s.width) (number_codes s.theme.characters.vbar w (at.old_line + 1))
      ++ shown_glyphs (dots s.theme) cut (line_cells s at.old_offset text)
  pub wide : (limit : ℕ) → s.layout.line_columns ≡ Some limit →
      limit_of limit < cells_width 0 (line_cells s at.old_offset text) → cut ≢ None
  pub fits : FitsLimit s.layout.line_columns (line_cells s at.old_offset text) → cut ≡ None
  pub first : (limit : ℕ) (parts : List LinePart) → s.layout.line_columns ≡ Some limit → cut ≡ Some parts →
      IsCutBy (has_room (limit_of limit) (dots_width s.theme.characters)) (dots_width s.theme.characters)
      (line_cells s at.old_offset text) parts
