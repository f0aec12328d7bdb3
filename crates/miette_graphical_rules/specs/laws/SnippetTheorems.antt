-- Theorems about the snippets of each printed diagnostic, over its effective source and over each further one.
use Rattle.std.specs.Prelude.{◌≡◌, ◌≢◌, ◌<◌, ◌+◌, ℕ, Bool, true, false, List, [], ◌∷◌, length, Option, Some, None}
use Rattle.std.specs.Prelude.{IfSome, ◌≤◌, ◌-◌, ◌||◌, max}
use Rattle.std.specs.List.{AllByRecursion, concat}
use Rattle.miette_lines.specs.rules.Lines.{Line, lines_of}
use Rattle.miette_protocol.specs.views.Meaning.{Label}
use Rattle.miette_protocol.specs.rules.Reading.{Source, Span}
use Rattle.miette_labels.specs.rules.Answers.{Highlight}
use Rattle.miette_labels.specs.rules.Around.{HaveContext, label_context}
use Rattle.miette_labels.specs.rules.Contexts.{contents, lines_of_contents}
use Rattle.miette_snippet_rules.specs.rules.FoldedLabels.{LabelExtent}
use Rattle.miette_snippet_rules.specs.rules.SnippetSettings as snippets
use Rattle.miette_labels.specs.rules.Groups as grouping
use Rattle.miette_labels.specs.rules.Groups.{AreInBounds, in_order, lines_of_groups}
use Rattle.miette_labels.specs.rules.Labels.{DrawnLabel, multi_line, one_line, some_shows_end}
use Rattle.miette_snippet_rules.specs.rules.SnippetLayout as snippet_layout
use Rattle.miette_snippet_rules.specs.rules.SnippetLayout.{body_rows, cells_of, cut_ends, line_cut, line_underlines}
use Rattle.miette_snippet_rules.specs.rules.SnippetLayout.{end_lines, end_settings, settings_around}
use Rattle.miette_style.specs.rules.Rows.{Row, glyph_columns, glyphs_of}
use Rattle.miette_columns.specs.rules.Cells.{Cell}
use Rattle.miette_columns.specs.rules.Widths.{width_of}
use Rattle.miette_snippet_rules.specs.rules.CutLines.{LinePart, cut_at, dots, dots_width, limit_of, text_columns}
use Rattle.miette_snippet_laws.specs.laws.Cuts.{AreAsWide, AreMoved, FitsLimit, GroupsFit, IsCutByReach, most_columns}
use Rattle.miette_snippet_laws.specs.laws.Cuts.{pieces_shown}
use Rattle.miette_snippet_rules.specs.rules.Underlines.{Underline, underlines_at, AreApart}
use Rattle.miette_snippet_rules.specs.rules.PrintedCells.{cells_width}
use Rattle.miette_snippet_rules.specs.rules.Numbers.{ranges, IsRange, AreParted}
use Rattle.miette_snippet_laws.specs.laws.Ends.{AreAfterShown, EndsStandAfter, asks_ends, draws_ends, with_ends}
use Rattle.miette_snippet_laws.specs.laws.Folding.{EndsPass, FitsIn, IsFarInside, IsInside}
use Rattle.miette_snippet_laws.specs.laws.LineRows.{BodyShows, underlines_of_line, text_of_line}
use Rattle.miette_snippet_rules.specs.rules.ShownLines.{framed_ranges, line_at}
use Rattle.miette_snippet_rules.specs.rules.Snippets.{is_context_line, shown_numbers, snippets, is_kept, is_left_out}
use Rattle.miette_graphical_rules.specs.rules.Answers.{pieces_listed}
use Rattle.miette_graphical_rules.specs.rules.Sources.{LabelledSource}
use Rattle.miette_graphical_rules.specs.rules.GraphicalSettings.{GraphicalSettings}
use Rattle.miette_graphical_rules.specs.laws.CharacterSets.{AreNarrow}
use Rattle.miette_graphical_rules.specs.laws.ShownLabelLines.{HasItsLines}
use Rattle.miette_graphical_rules.specs.rules.Snippets.{snippet_settings, shown_rows, source_rows}

-- the same settings, with no label folded, with no line cut, and with which labels at the end aren't drawn
abbrev pub unfolded : GraphicalSettings → GraphicalSettings
unfolded s = record s { layout = (snippets.unfolded (snippet_settings s)).layout }

abbrev pub uncut : GraphicalSettings → GraphicalSettings
uncut s = record s { layout = (snippets.uncut (snippet_settings s)).layout }

abbrev pub without_ends : GraphicalSettings → GraphicalSettings
without_ends s = record s { layout = (with_ends false (snippet_settings s)).layout }

-- ---- the lines of the snippets

-- the number of context lines of labels over a source that always reads, and the settings of their snippets

abbrev pub context_around : GraphicalSettings → Source → List Label → ℕ
context_around s source labels = end_lines s.layout false source labels

abbrev pub label_settings : GraphicalSettings → Source → List Label → snippets.SnippetSettings
label_settings s source labels = end_settings (snippet_settings s) false source labels

-- the numbers of the lines in the context of some label
abbrev pub context_numbers : GraphicalSettings → Source → List Label → List ℕ
context_numbers s source labels = shown_numbers (context_around s source labels) source.bytes labels

-- the groups of labels; each group is one snippet
abbrev pub groups_of : GraphicalSettings → Source → List Label → List Span
groups_of s source labels = grouping.groups_of (context_around s source labels) source [] (in_order labels)

-- the settings of the snippets, with the context lines by which these groups are read
abbrev pub group_settings : GraphicalSettings → Source → List Label → snippets.SnippetSettings
group_settings s source labels = settings_around (label_settings s source labels) (in_order labels)

-- The snippets show the lines in the context of some label, once and in order. The rows are those of the maximal ranges
-- of these lines, each with its number and text, for any pieces, and each range has a frame. A group shows the lines of
-- one range. If labels are folded, lines that are in the context of no folded label are left out, at least two adjacent
-- ones, and a break row replaces them. Each line of a label is among the shown lines.
pub record ShowsRanges (s : GraphicalSettings) (source : Source) (labels : List Label) : Type 0 where
  pub rows : (pieces : List (List (List Highlight))) →
      source_rows s (Some source) labels (pieces_listed pieces)
      ≡ shown_rows (Some (framed_ranges (label_settings s source labels) source labels (pieces_listed pieces)))
  pub groups : lines_of_groups (group_settings s source labels).layout.context_lines source (groups_of s source labels)
      ≡ snippets (context_around s source labels) source.bytes labels
  pub whole : concat (ranges (context_numbers s source labels)) ≡ context_numbers s source labels
  pub consecutive : AllByRecursion IsRange (ranges (context_numbers s source labels))
  pub parted : AreParted (ranges (context_numbers s source labels))
  pub own : AllByRecursion (HasItsLines source.bytes (context_numbers s source labels)) labels

-- for a diagnostic whose source always reads and accepts its labels, if each label has at least one line of context
abbrev pub LinesAreShown : GraphicalSettings → LabelledSource → Type 0
LinesAreShown s p =
    IfSome p.source (λ source.
    source.always_reads ≡ true → AreInBounds source.bytes p.labels →
    HaveContext (context_around s source p.labels) p.labels
    → ShowsRanges s source p.labels)

-- ---- the underlines of a line

-- the labels, sorted by offset
abbrev pub drawn_labels : GraphicalSettings → Source → List Label → List DrawnLabel
drawn_labels s source labels =
    snippet_layout.drawn_labels (group_settings s source labels) (length source.bytes) (in_order labels)

-- line k and its cells
abbrev pub line_number : Source → ℕ → Line
line_number source k = line_at (lines_of source.bytes) k

abbrev pub cells_under : GraphicalSettings → Source → ℕ → List Cell
cells_under s source k = cells_of (snippet_settings s) source.bytes (line_number source k)

-- the one-line labels on line k
abbrev pub labels_under : GraphicalSettings → Source → List Label → ℕ → List DrawnLabel
labels_under s source labels k = one_line (line_number source k) (drawn_labels s source labels)

-- their underlines, by the columns of the line's row
abbrev pub underlines_under : GraphicalSettings → Source → List Label → ℕ → List Underline
underlines_under s source labels k =
    underlines_of_line (snippet_settings s) (drawn_labels s source labels) (line_number source k)
    (cells_under s source k)

-- underlines aren't empty and don't overlap, and each pointer is in its own underline and in no other
pub record AreSeparateUnderlines (marks : List Underline) : Type 0 where
  pub apart : AreApart 0 marks
  pub anchors : AllByRecursion (λ mark. underlines_at mark.pointer marks ≡ mark ∷ []) marks

-- for each line of a diagnostic's source
abbrev pub UnderlinesAreApart : GraphicalSettings → LabelledSource → Type 0
UnderlinesAreApart s p = IfSome p.source (λ source. (k : ℕ) →
    AreSeparateUnderlines (underlines_under s source p.labels k))

-- ---- folded labels

-- whether line k is kept if labels are folded to `limit` lines
abbrev pub is_kept_at : ℕ → GraphicalSettings → Source → List Label → ℕ → Bool
is_kept_at limit s source labels k = is_kept (Some limit) (context_around s source labels) source.bytes labels k

-- whether it is left out
abbrev pub is_left_out_at : ℕ → GraphicalSettings → Source → List Label → ℕ → Bool
is_left_out_at limit s source labels k = is_left_out (Some limit) (context_around s source labels) source.bytes labels k

-- the labels on line k that also are on other lines
abbrev pub labels_through : GraphicalSettings → Source → List Label → ℕ → List DrawnLabel
labels_through s source labels k = multi_line (line_at (lines_of source.bytes) k) (drawn_labels s source labels)

-- A frame begins and ends with a kept line. No label begins or ends on a line that is left out, and adjacent such lines
-- have the same labels. So a break row has a bar for exactly the labels that run through all lines it replaces. At
-- least two adjacent lines are left out, and none among those shown around a label's first or last line. If no label
-- has more lines than the limit, the rows are those without folding.
pub record FoldsTo (limit : ℕ) (s : GraphicalSettings) (source : Source) (labels : List Label) : Type 0 where
  pub ends : AllByRecursion (EndsPass (is_kept_at limit s source labels)) (ranges (context_numbers s source labels))
  pub inside : (k : ℕ) → k < length (lines_of source.bytes) → is_kept_at limit s source labels k ≡ false →
      AllByRecursion (IsInside (line_at (lines_of source.bytes) k)) (drawn_labels s source labels)
  pub same : (k : ℕ) → k + 1 < length (lines_of source.bytes) → is_kept_at limit s source labels k ≡ false →
      is_kept_at limit s source labels (k + 1) ≡ false →
      labels_through s source labels k ≡ labels_through s source labels (k + 1)
  pub pairs : (k : ℕ) → is_left_out_at limit s source labels k ≡ true →
      (is_left_out_at limit s source labels (k - 1) || is_left_out_at limit s source labels (k + 1)) ≡ true
  pub near : (k : ℕ) → is_left_out_at limit s source labels k ≡ true → AllByRecursion
      (λ label. IsFarInside (label_context (context_around s source labels) labels label) source.bytes k label.span)
      labels
  pub short : AllByRecursion (FitsIn limit source.bytes) labels → (pieces : List (List (List Highlight))) →
      source_rows s (Some source) labels (pieces_listed pieces)
      ≡ source_rows (unfolded s) (Some source) labels (pieces_listed pieces)

-- if labels are folded, under the conditions of `LinesAreShown`
abbrev pub LabelsAreFolded : GraphicalSettings → LabelledSource → Type 0
LabelsAreFolded s p =
    IfSome p.source (λ source. IfSome s.layout.label_lines (λ limit.
    source.always_reads ≡ true → AreInBounds source.bytes p.labels →
    HaveContext (context_around s source p.labels) p.labels
    → FoldsTo limit s source p.labels))

-- ---- lines that are cut

-- the shown text of line k, in these highlighter pieces
abbrev pub text_shown : GraphicalSettings → Source → List Label → ℕ → List Highlight → Row
text_shown s source labels k pieces =
    text_of_line (snippet_settings s) (drawn_labels s source labels) (line_number source k) (cells_under s source k)
    pieces

-- the underlines of line k, by the columns of the whole line
abbrev pub whole_underlines : GraphicalSettings → Source → List Label → ℕ → List Underline
whole_underlines s source labels k =
    line_underlines (line_number source k) (cells_under s source k) (labels_under s source labels k)

-- the label columns of line k: those of its underlines, and those where multi-line labels begin or end
abbrev pub ends_under : GraphicalSettings → Source → List Label → ℕ → List ℕ
ends_under s source labels k =
    cut_ends (line_number source k) (cells_under s source k) (labels_under s source labels k)
    (labels_through s source labels k)

-- the parts into which line k is cut, if it is
abbrev pub cut_under : GraphicalSettings → Source → List Label → ℕ → Option (List LinePart)
cut_under s source labels k =
    line_cut (snippet_settings s) (line_number source k) (cells_under s source k) (labels_under s source labels k)
    (labels_through s source labels k)

-- the width of the row of line k if only its label columns were shown
abbrev pub least_columns : GraphicalSettings → Source → List Label → ℕ → ℕ
least_columns s source labels k =
    text_columns (dots_width s.theme.characters)
    (cut_at (dots_width s.theme.characters) 0 (ends_under s source labels k) (cells_under s source k))

-- Line k is cut by its reach: the largest distance from its label columns with which the row fits into the limit.
-- Without label columns, as many of its first cells are shown as fit. Shown parts are printed, and the theme's dots in
-- place of each other part. Underlines keep their characters: at both ends, and at each shown column.
pub record IsCutExactly (s : GraphicalSettings) (source : Source) (labels : List Label) (k limit : ℕ)
    (cut : List LinePart) :
    Type 0 where
  pub reach : IsCutByReach (limit_of limit) (dots_width s.theme.characters) (ends_under s source labels k)
      (cells_under s source k) cut
  pub printed : (pieces : List Highlight) →
      glyphs_of (text_shown s source labels k pieces) ≡ pieces_shown (dots s.theme) cut
  pub marks : AreMoved (dots s.theme) (cells_under s source k) cut (whole_underlines s source labels k)
      (underlines_under s source labels k)

-- Exactly the lines over the limit are cut; limits below 8 count as 8. A row's text has no more columns than the limit,
-- or than its label columns need. Each label column needs at most the widest cell and the dots.
pub record IsCutAt (s : GraphicalSettings) (source : Source) (labels : List Label) (k limit : ℕ) : Type 0 where
  pub wide : limit_of limit < cells_width 0 (cells_under s source k) → cut_under s source labels k ≢ None
  pub fits : cells_width 0 (cells_under s source k) ≤ limit_of limit → cut_under s source labels k ≡ None
  pub exact : (cut : List LinePart) → cut_under s source labels k ≡ Some cut →
      IsCutExactly s source labels k limit cut
  pub narrow : (pieces : List Highlight) → glyph_columns (glyphs_of (text_shown s source labels k pieces))
      ≤ max (limit_of limit) (least_columns s source labels k)
  pub ends : (widest : ℕ) → AreAsWide widest (cells_under s source k) → least_columns s source labels k
      ≤ most_columns (dots_width s.theme.characters) widest (length (ends_under s source labels k))

-- for each line of a diagnostic's source, if there is a limit
abbrev pub CutsAreExact : GraphicalSettings → LabelledSource → Type 0
CutsAreExact s p = IfSome p.source (λ source. (k limit : ℕ) → s.layout.line_columns ≡ Some limit →
    IsCutAt s source p.labels k limit)

-- If no line of a snippet exceeds the limit, its rows don't change, for any folding and any pieces.
abbrev pub SnippetStays : GraphicalSettings → Source → List Label → Span → Type 0
SnippetStays s source labels group =
    (label_extents : List LabelExtent) (pieces : List (List Highlight)) →
    AllByRecursion (λ line. FitsLimit s.layout.line_columns (cells_of (snippet_settings s) source.bytes line))
    (lines_of_contents (contents (group_settings s source labels).layout.context_lines source group)) →
    body_rows (group_settings s source labels) label_extents (drawn_labels s source labels) source.bytes
    (contents (group_settings s source labels).layout.context_lines source group) pieces
    ≡ body_rows (snippets.uncut (group_settings s source labels)) label_extents (drawn_labels s source labels)
    source.bytes
    (contents (group_settings s source labels).layout.context_lines source group) pieces

-- If no line of the snippets of labels exceeds the limit, none of their rows change, for any pieces.
abbrev pub RowsStay : GraphicalSettings → Source → List Label → Type 0
RowsStay s source labels =
    GroupsFit (group_settings s source labels) source (groups_of s source labels) →
    (pieces : List (List (List Highlight))) →
    source_rows s (Some source) labels (pieces_listed pieces)
    ≡ source_rows (uncut s) (Some source) labels (pieces_listed pieces)

-- for each snippet of a diagnostic, and for all its rows
abbrev pub LinesThatFitStay : GraphicalSettings → LabelledSource → Type 0
LinesThatFitStay s p =
    IfSome p.source (λ source. AllByRecursion (SnippetStays s source p.labels) (groups_of s source p.labels)
    × RowsStay s source p.labels)

-- ---- label texts

-- in a snippet, for any pieces, a connector joins each text of a one-line label to its own underline's pointer
abbrev pub SnippetIsConnected : GraphicalSettings → Source → List Label → Span → Type 0
SnippetIsConnected s source labels group =
    (pieces : List (List Highlight)) →
    BodyShows (group_settings s source labels) (drawn_labels s source labels) source.bytes
    (contents (group_settings s source labels).layout.context_lines source group) pieces

-- for each snippet of a diagnostic, if the theme's drawing characters are one column wide
abbrev pub TextsAreConnected : GraphicalSettings → LabelledSource → Type 0
TextsAreConnected s p =
    IfSome p.source (λ source.
    AreNarrow width_of s.theme.characters → AllByRecursion (SnippetIsConnected s source p.labels)
    (groups_of s source p.labels))

-- ---- labels at the end of the source

-- Exactly these labels are drawn after the text of the last line. For any pieces, their underlines begin in the column
-- after the shown text, or where the previous underline ends.
pub record EndsAfter (s : GraphicalSettings) (source : Source) (labels : List Label) : Type 0 where
  pub lines : EndsStandAfter (group_settings s source labels) source.bytes (in_order labels)
  pub marks : (k : ℕ) (pieces : List Highlight) →
      AreAfterShown (snippet_settings s) (drawn_labels s source labels) (line_number source k) (cells_under s source k)
      pieces

-- If labels at the end are drawn and the source has one, its last line is shown for any number of context lines, and
-- the labels are drawn after it. The source must always read and accept its labels.
abbrev pub EndIsShown : GraphicalSettings → Source → List Label → Type 0
EndIsShown s source labels =
    source.always_reads ≡ true → AreInBounds source.bytes labels →
    asks_ends (snippet_settings s) (length source.bytes) labels ≡ true →
    (is_context_line (context_around s source labels) source.bytes labels (length (lines_of source.bytes) - 1) ≡ true)
    × EndsAfter s source labels

-- The labels are drawn if one of them has a line of context. If none of them needs one, or there is none, the rows are
-- those without the setting.
abbrev pub EndsAreDrawn : GraphicalSettings → LabelledSource → Type 0
EndsAreDrawn s p =
    IfSome p.source (λ source.
    (draws_ends (group_settings s source p.labels) (length source.bytes)
    (in_order p.labels) ≡ true → EndsAfter s source p.labels)
    × EndIsShown s source p.labels
    × (some_shows_end 1 (length source.bytes) p.labels ≡ false →
    (pieces : List (List (List Highlight))) →
    source_rows s (Some source) p.labels (pieces_listed pieces)
    ≡ source_rows (without_ends s) (Some source) p.labels (pieces_listed pieces)))
