-- The rows of shown lines, by their numbers in the source.
use Rattle.std.specs.Prelude.{ℕ, ◌+◌, List, [], ◌∷◌, ◌++◌, map, length, decimal, Bool, false, not, drop}
use Rattle.miette_lines.specs.rules.Lines.{lines_of}
use Rattle.miette_protocol.specs.views.Meaning.{Label}
use Rattle.miette_protocol.specs.rules.Reading.{Span, Source}
use Rattle.miette_snippet_rules.specs.rules.Numbers.{last_of}
use Rattle.miette_style.specs.rules.Rows.{Row}
use Rattle.miette_snippet_rules.specs.rules.Snippets.{snippets, is_kept}
use Rattle.miette_labels.specs.rules.Answers.{Answers, Highlight, first_of}
use Rattle.miette_labels.specs.rules.Contexts.{contents}
use Rattle.miette_labels.specs.rules.Groups.{in_order, groups_of}
use Rattle.miette_labels.specs.rules.Labels.{DrawnLabel}
use Rattle.miette_snippet_rules.specs.rules.Gutters.{gutter_columns}
use Rattle.miette_snippet_rules.specs.rules.FoldedLabels.{LabelExtent}
pub use Rattle.miette_snippet_rules.specs.rules.FoldedLabels.{line_at}
use Rattle.miette_snippet_rules.specs.rules.Frames.{top_row, bottom_row, number_width}
use Rattle.miette_snippet_rules.specs.rules.SnippetLayout.{SnippetContext, snippet_context, cells_of, line_or_break}
use Rattle.miette_snippet_rules.specs.rules.SnippetLayout.{body_rows, place_of}
use Rattle.miette_snippet_rules.specs.rules.SnippetLayout.{settings_around}
use Rattle.miette_snippet_rules.specs.rules.SnippetLayout.{drawn_labels}
use Rattle.miette_snippet_rules.specs.rules.SnippetSettings.{SnippetSettings}

-- The rows of the lines with these zero-based numbers, and a break row wherever lines are left out. The first argument
-- says whether a line is kept, the second whether the previous one is left out.
abbrev pub numbered_rows : (ℕ → Bool) → Bool → SnippetContext → List ℕ → List (List Highlight) → List ℕ → List Row
numbered_rows kept gap c source pieces [] = []
numbered_rows kept gap c source pieces (k ∷ ks) =
    line_or_break gap (not (kept k)) c (line_at (lines_of source) k) (k + 1) (first_of pieces)
    ++ numbered_rows kept (not (kept k)) c source (drop 1 pieces) ks

abbrev pub range_width : List ℕ → ℕ
range_width [] = 1
range_width (k ∷ ks) = length (decimal (last_of k ks + 1))

-- the rows of a range of lines
abbrev pub range_rows : (ℕ → Bool) → SnippetSettings → List DrawnLabel → List ℕ → List (List Highlight) →
    List ℕ → List Row
range_rows kept s labels source pieces ks =
    numbered_rows kept false (snippet_context s (range_width ks)
    (gutter_columns labels (map (line_at (lines_of source)) ks)) labels (cells_of s source)) source pieces ks

abbrev pub rows_of_ranges : (ℕ → Bool) → SnippetSettings → List DrawnLabel → List ℕ →
    List (List (List Highlight)) → List (List ℕ) → List (List Row)
rows_of_ranges kept s labels source pieces [] = []
rows_of_ranges kept s labels source pieces (range ∷ ranges) =
    range_rows kept s labels source (first_of pieces) range
    ∷ rows_of_ranges kept s labels source (drop 1 pieces) ranges

-- the rows of each group inside its frame
abbrev pub bodies : SnippetSettings → List LabelExtent → List DrawnLabel → Source → List (List (List Highlight)) → List
    Span → List (List Row)
bodies s label_extents labels source pieces [] = []
bodies s label_extents labels source pieces (group ∷ groups) =
    body_rows s label_extents labels source.bytes (contents s.layout.context_lines source group) (first_of pieces)
    ∷ bodies s label_extents labels source (drop 1 pieces) groups

-- each body inside its group's frame
abbrev pub framed_rows : SnippetSettings → Source → List Label → List Span → List (List Row) → List Row
framed_rows s source labels [] bodies = []
framed_rows s source labels (group ∷ groups) [] = []
framed_rows s source labels (group ∷ groups) (body ∷ more) =
    (top_row s (contents s.layout.context_lines source group) (place_of source group labels)
    ∷ body ++ bottom_row s (number_width (contents s.layout.context_lines source group)) ∷ [])
    ++ framed_rows s source labels groups more

-- The rows of snippets, by the shown lines: each maximal range in the frame of its group, with a break row wherever
-- lines are left out inside a folded label.
abbrev pub framed_ranges : SnippetSettings → Source → List Label → Answers → List Row
framed_ranges s source labels answers =
    framed_rows (settings_around s (in_order labels)) source (in_order labels)
    (groups_of s.layout.context_lines source answers.join_fails (in_order labels))
    (rows_of_ranges (is_kept s.layout.label_lines s.layout.context_lines source.bytes labels)
    (settings_around s (in_order labels))
    (drawn_labels (settings_around s (in_order labels)) (length source.bytes) (in_order labels)) source.bytes
    answers.pieces
    (snippets s.layout.context_lines source.bytes labels))
