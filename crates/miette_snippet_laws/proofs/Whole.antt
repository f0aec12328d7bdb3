-- The rows of a whole snippet.
use Rattle.std.proofs.Common.{ℕ, ◌+◌, ◌≤◌, ◌≡◌, false, List, [], ◌∷◌, length, arith, drop}
use Rattle.std.specs.Prelude.{decimal, slice_range}
use Rattle.std.specs.List.{AllByRecursion}
use Rattle.miette_lines.specs.rules.Lines.{Line}
use Rattle.miette_protocol.specs.rules.Reading.{Contents}
use Rattle.miette_labels.specs.rules.Answers.{Highlight, first_of}
use Rattle.miette_labels.specs.rules.Contexts.{lines_of_contents}
use Rattle.miette_labels.specs.rules.Labels.{DrawnLabel, multi_line, one_line}
use Rattle.miette_snippet_rules.specs.rules.LabelColumns.{multi_line_ends}
use Rattle.miette_snippet_rules.specs.rules.CutLines.{dots_width}
use Rattle.miette_snippet_rules.specs.rules.LabelRows.{IsNarrow}
use Rattle.miette_snippet_rules.specs.rules.Gutters.{gutter_columns}
use Rattle.miette_snippet_rules.specs.rules.Frames.{width_of_lines}
use Rattle.miette_snippet_rules.specs.rules.SnippetLayout.{cells_of, line_underlines, snippet_context, text_of_cells}
use Rattle.miette_snippet_laws.specs.laws.LineRows.{LineShows, LinesShow, BodyShows, underlines_of_line}
use Rattle.miette_snippet_rules.specs.rules.Underlines.{AreApart, MeasuredText}
use Rattle.miette_snippet_laws.proofs.Apart.{marks_apart}
use Rattle.miette_columns.specs.rules.Cells.{Cell, characters}
use Rattle.miette_snippet_rules.proofs.CutColumns.{AreColumns, columns_from, shown_apart}
use Rattle.miette_snippet_laws.proofs.Numerals.{decimal-mono}
use Rattle.miette_snippet_laws.proofs.RowCounts.{line_count}
use Rattle.miette_snippet_laws.proofs.Beneath.{HasRoom, line_shows, line_begins, line_numbered, all_room}
use Rattle.miette_snippet_rules.specs.rules.SnippetSettings.{SnippetSettings}

pub line_columns : (s : SnippetSettings) (source : List ℕ) (line : Line) → AreColumns 0 (cells_of s source line)
line_columns s source line = columns_from s.width s.layout.tab_width false line.start 0
    (characters (slice_range source line.start line.text_end))

pub row_apart : (s : SnippetSettings) (labels : List DrawnLabel) (source : List ℕ) (line : Line)
    → AreApart 0 (underlines_of_line s labels line (cells_of s source line))
row_apart s labels source line =
    let cells : List Cell = cells_of s source line in
    let text : MeasuredText = text_of_cells cells line.text_end in
    shown_apart (dots_width s.theme.characters) s.layout.line_columns (line_underlines line cells
    (one_line line labels))
    (multi_line_ends line text (multi_line line labels)) cells (line_columns s source line)
    (marks_apart text (one_line line labels))

-- the rows of one line
pub line_shown : (s : SnippetSettings) (w columns : ℕ) (labels : List DrawnLabel) (source : List ℕ) (line : Line)
    (number : ℕ) (pieces : List Highlight) → IsNarrow s.width s.theme.characters → HasRoom labels line columns →
    length (decimal number) ≤ w →
    LineShows (snippet_context s w columns labels (cells_of s source)) line number pieces
line_shown s w columns labels source line number pieces n room fits = record {
  numbered = line_numbered s w columns labels line number (cells_of s source line) pieces n room;
  text = line_begins s w columns labels line number (cells_of s source line) pieces n room fits;
  marks = line_shows s w columns labels line number (cells_of s source line) pieces n room
      (line_columns s source line);
  count = line_count s w columns labels line number (cells_of s source line) pieces;
}

lines_show : (s : SnippetSettings) (w columns last : ℕ) (labels : List DrawnLabel) (source : List ℕ) (number : ℕ)
    (pieces : List (List Highlight)) (lines : List Line) → IsNarrow s.width s.theme.characters →
    number + length lines ≡ last + 1 → length (decimal last) ≤ w
    → AllByRecursion (λ line. HasRoom labels line columns) lines
    → LinesShow (snippet_context s w columns labels (cells_of s source)) number pieces lines
lines_show s w columns last labels source number pieces [] n sum fits room = tt
lines_show s w columns last labels source number pieces (line ∷ lines) n sum fits room =
    let below : number ≤ last = omega (arith, sum) in
    let own : length (decimal number) ≤ w = omega (arith, decimal-mono number last below, fits) in (
      line_shown s w columns labels source line number (first_of pieces) n room.0 own,
      lines_show s w columns last labels source (number + 1) (drop 1 pieces) lines n (omega (arith, sum)) fits room.1,
    )

width-fits : (line : ℕ) (l : Line) (ls : List Line) → length (decimal (line + length (l ∷ ls)))
    ≤ width_of_lines line (l ∷ ls)
width-fits line l ls = omega arith

body_from : (s : SnippetSettings) (labels : List DrawnLabel) (source : List ℕ) (line : ℕ)
    (pieces : List (List Highlight)) (lines : List Line) → IsNarrow s.width s.theme.characters →
    LinesShow (snippet_context s (width_of_lines line lines) (gutter_columns labels lines) labels (cells_of s source))
    (line + 1) pieces lines
body_from s labels source line pieces [] n = tt
body_from s labels source line pieces (l ∷ ls) n =
    lines_show s (width_of_lines line (l ∷ ls)) (gutter_columns labels (l ∷ ls)) (line + length (l ∷ ls)) labels source
    (line + 1) pieces (l ∷ ls) n (omega arith) (width-fits line l ls) (all_room labels (l ∷ ls))

pub body_shows : (s : SnippetSettings) (labels : List DrawnLabel) (source : List ℕ) (read : Contents)
    (pieces : List (List Highlight)) → IsNarrow s.width s.theme.characters → BodyShows s labels source read pieces
body_shows s labels source read pieces n = body_from s labels source read.line pieces (lines_of_contents read) n
