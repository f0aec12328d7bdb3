-- The number row of a line, as characters and as bytes.
use Rattle.std.specs.Prelude.{◌≡◌, ℕ, ◌-◌, ◌<◌, ◌^◌, true, List, [], ◌∷◌, ◌++◌, map, length, decimal, None}
use Rattle.std.specs.Prelude.{encode_utf8_all, slice_range}
use Rattle.std.specs.List.{list_all}
use Rattle.miette_columns.specs.rules.Cells.{Cell}
use Rattle.miette_columns.specs.views.Printable.{is_printable}
use Rattle.miette_labels.specs.rules.Labels.{multi_line, one_line}
use Rattle.miette_style.specs.rules.Rows.{Row}
use Rattle.miette_runs.specs.rules.Runs.{print}
use Rattle.miette_snippet_rules.specs.rules.PrintedCells.{printed_cells}
use Rattle.miette_snippet_rules.specs.rules.SnippetSettings.{SnippetSettings}
use Rattle.miette_snippet_rules.specs.rules.SnippetLayout.{SnippetContext, cells_of, line_cut, line_rows}
use Rattle.miette_lines.specs.rules.Lines.{Line}
use Rattle.miette_style.specs.rules.Styles.{plain}
use Rattle.miette_graphical_rules.specs.rules.Indents.{spaces}
use Rattle.miette_graphical_rules.specs.rules.Snippets.{runs_of_row}

-- a line's text as it is printed, with tabs as spaces
abbrev pub printed_line : List Cell → List ℕ
printed_line cells = map (λ g. g.code) (printed_cells cells)

-- a number, right-aligned in `columns` columns
abbrev pub padded : ℕ → ℕ → List ℕ
padded columns number = spaces (columns - length (decimal number)) ++ decimal number

-- a space, a number, a space, a bar, a space, and a text
abbrev pub numbered : List ℕ → List ℕ → List ℕ → List ℕ
numbered number bar text = 32 ∷ (number ++ (32 ∷ (bar ++ (32 ∷ text))))

-- A line that isn't cut and has no multi-line label, in a theme with plain numbers.
pub record IsPlainLine (c : SnippetContext) (line : Line) : Type 0 where
  pub numbers : c.settings.theme.styles.linum ≡ plain
  pub alone : multi_line line c.labels ≡ []
  pub whole : line_cut c.settings line (c.cells line) (one_line line c.labels) (multi_line line c.labels) ≡ None

-- Without highlighting, the line's first row is its number and its text, after the spaces of the gutter if the snippet
-- has one.
pub record PrintsNumber (c : SnippetContext) (line : Line) (number : ℕ) : Type 0 where
  pub row : Row
  pub below : List Row
  pub first : line_rows c line number [] ≡ row ∷ below
  pub prints : print (runs_of_row row) ≡ numbered (padded c.number_width number)
      (c.settings.theme.characters.vbar ∷ []) (spaces c.gutter ++ printed_line (c.cells line))
  pub bytes : number < 2 ^ 64 → encode_utf8_all (print (runs_of_row row))
      ≡ numbered (padded c.number_width number) (encode_utf8_all (c.settings.theme.characters.vbar ∷ []))
      (spaces c.gutter ++ encode_utf8_all (printed_line (c.cells line)))

-- the bytes of a line's text
abbrev pub line_bytes : List ℕ → Line → List ℕ
line_bytes bytes line = slice_range bytes line.start line.text_end

-- Printable ASCII characters are printed as they are.
abbrev pub PrintsItself : SnippetSettings → List ℕ → Line → Type 0
PrintsItself s bytes line = list_all is_printable (line_bytes bytes line) ≡ true →
    encode_utf8_all (printed_line (cells_of s bytes line)) ≡ line_bytes bytes line
