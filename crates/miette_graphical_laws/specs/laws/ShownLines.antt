-- Where the rows of shown lines are among those of the labels over a source, and these among those of a diagnostic.
use Rattle.std.specs.Prelude.{◌≡◌, ℕ, ◌+◌, true, List, [], ◌∷◌, ◌++◌, map, length, drop, Some}
use Rattle.miette_labels.specs.rules.Answers.{Highlight, first_of}
use Rattle.miette_style.specs.rules.Rows.{Row}
use Rattle.miette_protocol.specs.views.Meaning.{Label}
use Rattle.miette_protocol.specs.rules.Reading.{Source}
use Rattle.miette_runs.specs.rules.Runs.{Fragment}
use Rattle.miette_snippet_laws.specs.laws.LineRows.{LineShows}
use Rattle.miette_snippet_rules.specs.rules.Gutters.{gutter_columns}
use Rattle.miette_snippet_rules.specs.rules.Numbers.{ranges}
use Rattle.miette_snippet_rules.specs.rules.ShownLines.{range_width}
use Rattle.miette_snippet_rules.specs.rules.SnippetLayout.{SnippetContext, cells_of, line_rows, snippet_context}
use Rattle.miette_snippet_rules.specs.rules.Snippets.{is_kept}
use Rattle.miette_graphical_rules.specs.rules.Answers.{SourceAnswers, first_source, pieces_listed}
use Rattle.miette_graphical_rules.specs.rules.GraphicalSettings.{GraphicalSettings}
use Rattle.miette_graphical_rules.specs.rules.Snippets.{runs_of_row, source_rows}
use Rattle.miette_graphical_rules.specs.rules.Sources.{LabelledSource, after_labels}
use Rattle.miette_graphical_rules.specs.laws.SnippetTheorems.{context_around, drawn_labels, group_settings, line_number}
use Rattle.miette_graphical_rules.specs.laws.SnippetTheorems.{context_numbers}

-- rows that follow one another among others
pub record AreInOrderIn {A : Type 0} (rows all : List A) : Type 0 where
  pub above : List A
  pub below : List A
  pub whole : all ≡ above ++ rows ++ below

-- ---- the rows of one line

-- A line in the ranges of shown lines: the ranges before its own, its place in its own range, and the ranges after it.
pub record PlaceIn (shown : List (List ℕ)) : Type 0 where
  pub before : List (List ℕ)
  pub front : List ℕ
  pub line : ℕ
  pub back : List ℕ
  pub after : List (List ℕ)
  pub there : shown ≡ before ++ (front ++ line ∷ back) ∷ after

-- its own range
abbrev pub range_at : {shown : List (List ℕ)} → PlaceIn shown → List ℕ
range_at place = place.front ++ place.line ∷ place.back

-- the highlighter's pieces of this line
abbrev pub pieces_at : {shown : List (List ℕ)} → PlaceIn shown → List (List (List Highlight)) → List Highlight
pieces_at place pieces = first_of (drop (length place.front) (first_of (drop (length place.before) pieces)))

-- What the lines of a range are drawn with: the width of its last number, and a gutter for its multi-line labels.
abbrev pub range_context : GraphicalSettings → Source → List Label → List ℕ → SnippetContext
range_context s source labels range =
    snippet_context (group_settings s source labels) (range_width range)
    (gutter_columns (drawn_labels s source labels) (map (line_number source) range)) (drawn_labels s source labels)
    (cells_of (group_settings s source labels) source.bytes)

abbrev pub ShownPlace : GraphicalSettings → Source → List Label → Type 0
ShownPlace s source labels = PlaceIn (ranges (context_numbers s source labels))

-- its rows, in these pieces
abbrev pub rows_of_place : (s : GraphicalSettings) (source : Source) (labels : List Label) → ShownPlace s source labels
    →
    List (List (List Highlight)) → List Row
rows_of_place s source labels place pieces =
    line_rows (range_context s source labels (range_at place)) (line_number source place.line) (place.line + 1)
    (pieces_at place pieces)

-- The rows of each line that isn't left out inside folded labels appear together among those of the labels.
abbrev pub ShownLinesStand : GraphicalSettings → Source → List Label → Type 0
ShownLinesStand s source labels = (place : ShownPlace s source labels) (pieces : List (List (List Highlight))) →
    is_kept s.layout.label_lines (context_around s source labels) source.bytes labels place.line ≡ true →
    AreInOrderIn (map runs_of_row (rows_of_place s source labels place pieces))
    (source_rows s (Some source) labels (pieces_listed pieces))

-- In these rows the line's text begins at a fixed column, and connectors join label texts to their underlines.
abbrev pub ShownLinesShow : GraphicalSettings → Source → List Label → Type 0
ShownLinesShow s source labels = (place : ShownPlace s source labels) (pieces : List (List (List Highlight))) →
    LineShows (range_context s source labels (range_at place)) (line_number source place.line) (place.line + 1)
    (pieces_at place pieces)

-- ---- the rows over each source

-- they appear together among these rows
abbrev pub SourcesStand : GraphicalSettings → List LabelledSource → SourceAnswers → List (List Fragment) → Type 0
SourcesStand s [] a all = Unit {0}
SourcesStand s (it ∷ more) a all =
    AreInOrderIn (source_rows s it.source it.labels (first_source a)) all
    × SourcesStand (after_labels (length it.labels) s) more (drop 1 a) all
