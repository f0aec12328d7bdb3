-- The rows of a diagnostic's snippets.
use Rattle.std.specs.Prelude.{ℕ, ◌+◌, ◌-◌, List, [], ◌∷◌, ◌++◌, map, length, slice_range, Option, Some, None, Bool}
use Rattle.std.specs.Prelude.{false, not, ◌&&◌, ◌||◌, if◌then◌else◌, max, nat_le, nat_lt, drop}
use Rattle.std.specs.List.{filter, list_any}
use Rattle.std.specs.Option.{option_map}
use Rattle.miette_lines.specs.rules.Lines.{Line}
use Rattle.miette_protocol.specs.views.Meaning.{Label}
use Rattle.miette_protocol.specs.rules.Reading.{Span, Source, Contents}
use Rattle.miette_style.specs.rules.Rows.{Row}
use Rattle.miette_labels.specs.rules.Answers.{Answers, Highlight, first_of}
use Rattle.miette_labels.specs.rules.Around.{has_own_context, group_context}
use Rattle.miette_labels.specs.rules.Contexts.{end_of_span, contents, lines_of_contents}
use Rattle.miette_labels.specs.rules.Groups.{in_order, first_refusal, groups_of, some_fails, groups_fail}
use Rattle.miette_snippet_rules.specs.declared.options.LayoutOptions.{LayoutOptions}
use Rattle.miette_snippet_rules.specs.rules.PrintedCells.{cells_width}
use Rattle.miette_columns.specs.rules.Cells.{Cell, characters, cells_from}
use Rattle.miette_labels.specs.rules.Labels.{DrawnLabel, drawn_from, some_shows_end, one_line, multi_line}
use Rattle.miette_labels.specs.rules.Labels.{closing_labels}
use Rattle.miette_snippet_rules.specs.rules.Underlines.{MeasuredText, Underline, marks}
use Rattle.miette_snippet_rules.specs.rules.LabelColumns.{underline_ends, multi_line_ends}
use Rattle.miette_snippet_rules.specs.rules.CutLines.{LinePart, cut_line, dots, dots_width, shown_runs, row_underlines}
use Rattle.miette_snippet_rules.specs.rules.LabelRows.{underline_rows}
use Rattle.miette_snippet_rules.specs.rules.Gutters.{gutter_columns, number_gutter, other_gutter, break_gutter}
use Rattle.miette_snippet_rules.specs.rules.Gutters.{closing_rows}
use Rattle.miette_snippet_rules.specs.rules.FoldedLabels.{LabelExtent, extents_of_labels, leaves_out}
use Rattle.miette_snippet_rules.specs.rules.SnippetSettings.{SnippetSettings}
use Rattle.miette_snippet_rules.specs.rules.Frames.{Place, refused_row, top_row, bottom_row}
use Rattle.miette_snippet_rules.specs.rules.Frames.{number_width}
use Rattle.miette_snippet_rules.specs.rules.Frames.{number_start, other_start, break_start}

-- a line's text, from its cells and its end
abbrev pub text_of_cells : List Cell → ℕ → MeasuredText
text_of_cells cells text_end = record { cells = cells; text_end = text_end; width = cells_width 0 cells }

-- a line's cells
abbrev pub cells_of : SnippetSettings → List ℕ → Line → List Cell
cells_of s source line = cells_from s.width s.layout.tab_width false line.start 0
    (characters (slice_range source line.start line.text_end))

abbrev pub before_each : Row → List Row → List Row
before_each prefix rows = map (λ row. prefix ++ row) rows

-- the underlines of one-line labels, by the columns of the whole line
abbrev pub line_underlines : Line → List Cell → List DrawnLabel → List Underline
line_underlines line cells one = marks (text_of_cells cells line.text_end) one

-- the label columns of a line: those of its underlines, and those where multi-line labels begin or end
abbrev pub cut_ends : Line → List Cell → List DrawnLabel → List DrawnLabel → List ℕ
cut_ends line cells one multi =
    underline_ends (line_underlines line cells one) ++ multi_line_ends line (text_of_cells cells line.text_end) multi

-- how a line is cut around them, if it is
abbrev pub line_cut : SnippetSettings → Line → List Cell → List DrawnLabel → List DrawnLabel → Option (List LinePart)
line_cut s line cells one multi =
    cut_line (dots_width s.theme.characters) s.layout.line_columns (cut_ends line cells one multi) cells

-- What the lines of a snippet are drawn with: the widths of line numbers and gutters, the labels, and the cells of a
-- line.
pub record SnippetContext : Type 0 where
  pub settings : SnippetSettings
  pub number_width : ℕ
  pub gutter : ℕ
  pub labels : List DrawnLabel
  pub cells : Line → List Cell

abbrev pub snippet_context : SnippetSettings → ℕ → ℕ → List DrawnLabel → (Line → List Cell) → SnippetContext
snippet_context s w columns labels cells =
    record { settings = s; number_width = w; gutter = columns; labels = labels; cells = cells }

-- What all rows of a line are drawn with. `multi` are its multi-line labels.
pub record LineContext : Type 0 where
  pub settings : SnippetSettings
  pub number_width : ℕ
  pub gutter : ℕ
  pub line : Line
  pub multi : List DrawnLabel

abbrev pub line_in : SnippetSettings → ℕ → ℕ → Line → List DrawnLabel → LineContext
line_in s w columns line multi =
    record { settings = s; number_width = w; gutter = columns; line = line; multi = multi }

abbrev pub line_context : SnippetContext → Line → LineContext
line_context c line = line_in c.settings c.number_width c.gutter line (multi_line line c.labels)

-- What a line's own rows show: its number, its one-line labels, its cells, and the highlighter's pieces.
pub record ShownLine : Type 0 where
  pub number : ℕ
  pub one : List DrawnLabel
  pub cells : List Cell
  pub pieces : List Highlight

abbrev pub line_shown : ℕ → List DrawnLabel → List Cell → List Highlight → ShownLine
line_shown number one cells pieces = record { number = number; one = one; cells = cells; pieces = pieces }

abbrev pub shown_line : SnippetContext → Line → ℕ → List Highlight → ShownLine
shown_line c line number pieces = line_shown number (one_line line c.labels) (c.cells line) pieces

-- The rows of a line: the number row, the underlines and label texts of its one-line labels, and the label texts of
-- multi-line labels that end there.
abbrev pub line_rows_of : LineContext → ShownLine → List Row
line_rows_of c shown =
    (number_start c.settings c.number_width shown.number ++ number_gutter c.settings c.line c.gutter c.multi
    ++ shown_runs (dots c.settings.theme) (line_cut c.settings c.line shown.cells shown.one c.multi) shown.pieces
    shown.cells)
    ∷ before_each (other_start c.settings c.number_width ++ other_gutter c.settings c.line c.gutter c.multi)
    (underline_rows c.settings
    (row_underlines (dots_width c.settings.theme.characters)
    (line_cut c.settings c.line shown.cells shown.one c.multi) (line_underlines c.line shown.cells shown.one)))
    ++ before_each (other_start c.settings c.number_width)
    (closing_rows c.settings c.line c.gutter c.multi (closing_labels c.line c.multi))

abbrev pub line_rows : SnippetContext → Line → ℕ → List Highlight → List Row
line_rows c line number pieces = line_rows_of (line_context c line) (shown_line c line number pieces)

-- the row that replaces lines that are left out, with a bar for each of these labels
abbrev pub break_row : SnippetSettings → ℕ → List DrawnLabel → Row
break_row s w labels = break_start s w ++ break_gutter s labels

-- The rows of a line. If it is left out, a break row, or none if the previous line is left out too.
abbrev pub line_or_break_of : Bool → Bool → LineContext → ShownLine → List Row
line_or_break_of gap out c shown =
    if out then (if gap then [] else break_row c.settings c.number_width c.multi ∷ []) else line_rows_of c shown

abbrev pub line_or_break : Bool → Bool → SnippetContext → Line → ℕ → List Highlight → List Row
line_or_break gap out c line number pieces =
    line_or_break_of gap out (line_context c line) (shown_line c line number pieces)

-- The rows of lines numbered from here on, with the highlighter's pieces. The first argument says whether a line is
-- left out, the second whether the previous line is.
abbrev pub rows_of_lines : (ℕ → Line → Bool) → Bool → SnippetContext → ℕ → List (List Highlight) → List Line → List Row
rows_of_lines out gap c number pieces [] = []
rows_of_lines out gap c number pieces (line ∷ lines) =
    line_or_break gap (out number line) c line number (first_of pieces)
    ++ rows_of_lines out (out number line) c (number + 1) (drop 1 pieces) lines

-- whether a line of a snippet is left out; `before` lines come before the snippet
abbrev pub left_out : SnippetSettings → ℕ → List Line → List LabelExtent → ℕ → Line → Bool
left_out s before lines label_extents number line = leaves_out s.layout.label_lines lines label_extents
    (number - (before + 1)) line

-- the rows of a snippet inside its frame
abbrev pub body_rows : SnippetSettings → List LabelExtent → List DrawnLabel → List ℕ → Contents → List (List Highlight)
    →
    List Row
body_rows s label_extents labels source read pieces =
    rows_of_lines (left_out s read.line (lines_of_contents read) label_extents) false
    (snippet_context s (number_width read) (gutter_columns labels (lines_of_contents read)) labels (cells_of s source))
    (read.line + 1) pieces (lines_of_contents read)

-- Whether a label belongs to a group: its span is within the group's. If labels have their own numbers of context
-- lines, it begins in the group's bytes or at their end.
abbrev pub belongs_to : Bool → Span → Label → Bool
belongs_to own group label = nat_le group.offset label.span.offset
    && nat_le (if own then label.span.offset else end_of_span label.span) (end_of_span group)

-- the primary label of a group: the first one that is marked primary, else the first label

abbrev pub first_marked : Label → List Label → Label
first_marked first [] = first
first_marked first (label ∷ labels) = if label.primary then label else first_marked first labels

abbrev pub primary_of : List Label → Option Label
primary_of [] = None
primary_of (label ∷ labels) = Some (first_marked label (label ∷ labels))

-- where a label begins, from a read without context
abbrev pub start_of_label : Source → Label → Place
start_of_label source label = record {
  line = (contents 0 source label.span).line;
  column = (contents 0 source label.span).column;
}

-- the position that a snippet's frame shows
abbrev pub place_of : Source → Span → List Label → Option Place
place_of source group labels = option_map (start_of_label source)
    (primary_of (filter (belongs_to (has_own_context labels) group) labels))

-- The labels of a source of `n` bytes, sorted by offset. Labels at the end are drawn after the text of the last line if
-- the settings say so and one of them shows that line.
abbrev pub drawn_labels : SnippetSettings → ℕ → List Label → List DrawnLabel
drawn_labels s n labels = drawn_from (s.layout.end_labels && some_shows_end s.layout.context_lines n labels)
    s.theme.styles.highlights n 0 labels

abbrev pub snippet : SnippetSettings → List LabelExtent → Source → List Label → Span → List (List Highlight) → List Row
snippet s label_extents source labels group pieces =
    top_row s (contents s.layout.context_lines source group) (place_of source group labels)
    ∷ body_rows s label_extents (drawn_labels s (length source.bytes) labels) source.bytes
    (contents s.layout.context_lines source group)
    pieces
    ++ bottom_row s (number_width (contents s.layout.context_lines source group)) ∷ []

abbrev pub all_snippets : SnippetSettings → List LabelExtent → Source → List Label → List (List (List Highlight)) → List
    Span → List Row
all_snippets s label_extents source labels pieces [] = []
all_snippets s label_extents source labels pieces (group ∷ groups) =
    snippet s label_extents source labels group (first_of pieces)
    ++ all_snippets s label_extents source labels (drop 1 pieces) groups

-- the settings with the context lines by which the groups of these labels are read
abbrev pub settings_around : SnippetSettings → List Label → SnippetSettings
settings_around s labels =
    record s { layout = record s.layout { context_lines = group_context s.layout.context_lines labels } }

-- none if the read of a group or of a position fails
abbrev pub rows_of_groups : SnippetSettings → Source → List Label → Answers → List Span → Option (List Row)
rows_of_groups s source labels answers groups =
    if groups_fail s.layout.context_lines source answers.join_fails labels || some_fails answers.place_fails groups then
    None
    else Some (all_snippets (settings_around s labels) (extents_of_labels s.layout.label_lines s.layout.context_lines
    source
    labels) source labels
    answers.pieces groups)

abbrev pub rows_unless : SnippetSettings → Source → List Label → Answers → Option Row → Option (List Row)
rows_unless s source labels answers (Some row) = Some (row ∷ [])
rows_unless s source labels answers None = rows_of_groups s source labels answers
    (groups_of s.layout.context_lines source answers.join_fails labels)

-- The rows of a diagnostic's snippets with the context lines of these settings. None if a group or a position can't be
-- read. If a label is out of bounds, one row.
abbrev pub snippet_rows : SnippetSettings → Source → List Label → Answers → Option (List Row)
snippet_rows s source labels answers =
    rows_unless s source (in_order labels) answers
    (option_map (refused_row s) (first_refusal source.bytes answers.label_fails (in_order labels)))

-- ---- labels at the end of a source

-- Whether a label at the end of a source of `n` bytes needs the last line with a line of context, and no label begins
-- after the end.
abbrev pub asks_for_end : ℕ → List Label → Bool
asks_for_end n labels =
    some_shows_end 1 n labels && not (list_any (λ label. nat_lt n label.span.offset) labels)

-- The number of context lines around labels over a source: at least one if labels at its end are drawn and one of them
-- needs it. If the read of the end fails, no label counts as being there.
abbrev pub end_lines : LayoutOptions → Bool → Source → List Label → ℕ
end_lines layout fails source labels =
    if layout.end_labels && (not fails && asks_for_end (length source.bytes) labels) then max 1 layout.context_lines
    else layout.context_lines

-- the settings with these context lines
abbrev pub end_settings : SnippetSettings → Bool → Source → List Label → SnippetSettings
end_settings s fails source labels =
    record s { layout = record s.layout { context_lines = end_lines s.layout fails source labels } }

-- The rows of the snippets of a diagnostic's labels over a source. None if a group or a position can't be read.
abbrev pub rows_of_labels : SnippetSettings → Source → List Label → Answers → Option (List Row)
rows_of_labels s source labels answers =
    snippet_rows (end_settings s answers.end_fails source labels) source labels answers
