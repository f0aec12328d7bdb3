-- Gutters, which show multi-line labels, and the label texts of multi-line labels.
use Rattle.std.specs.Prelude.{ℕ, ◌+◌, ◌-◌, max, List, [], ◌∷◌, ◌++◌, map, length, replicate, if◌then◌else◌, ◌==◌}
use Rattle.miette_style.specs.rules.Rows.{Run, Row, styled_run}
use Rattle.miette_lines.specs.rules.Lines.{Line}
use Rattle.miette_labels.specs.rules.Labels.{DrawnLabel, starts_on, ends_on, multi_line}
use Rattle.miette_snippet_rules.specs.rules.LabelRows.{blank}
use Rattle.miette_snippet_rules.specs.rules.SnippetSettings.{SnippetSettings}
use Rattle.miette_style.specs.rules.Themes.{Characters}

-- the most multi-line labels on one line
abbrev pub most_labels : List DrawnLabel → List Line → ℕ
most_labels labels [] = 0
most_labels labels (line ∷ lines) = max (length (multi_line line labels)) (most_labels labels lines)

-- the width of a snippet's gutters in columns
abbrev pub gutter_columns : List DrawnLabel → List Line → ℕ
gutter_columns labels lines = if most_labels labels lines == 0 then 0 else most_labels labels lines + 3

abbrev pub ending_corner : Characters → List (List ℕ) → ℕ
ending_corner t [] = t.lbot
ending_corner t (part ∷ parts) = t.lcross

abbrev pub arrow : SnippetSettings → DrawnLabel → ℕ → ℕ → Run
arrow s label corner left = styled_run s.width label.style
    (corner ∷ replicate (left - 3) s.theme.characters.hbar ++ s.theme.characters.rarrow ∷ [])

-- The gutter of a number row, with `left` columns left. A label that begins or ends here has an arrow, one that runs
-- through has a bar.
abbrev pub number_gutter : SnippetSettings → Line → ℕ → List DrawnLabel → Row
number_gutter s line left [] = blank s left ∷ []
number_gutter s line left (label ∷ labels) =
    if starts_on line label then arrow s label s.theme.characters.ltop left ∷ blank s 1 ∷ []
    else if ends_on line label then arrow s label (ending_corner s.theme.characters label.parts) left ∷ blank s 1 ∷ []
    else styled_run s.width label.style (s.theme.characters.vbar ∷ []) ∷ number_gutter s line (left - 1) labels

abbrev pub bar : SnippetSettings → DrawnLabel → Run
bar s label = styled_run s.width label.style (s.theme.characters.vbar ∷ [])

-- the gutter of a break row, after its space: a bar for each label that runs through
abbrev pub break_gutter : SnippetSettings → List DrawnLabel → Row
break_gutter s [] = []
break_gutter s (label ∷ labels) = blank s 1 ∷ map (bar s) (label ∷ labels)

-- The gutter of any other row. The first label that ends here has a corner and bars up to the end. Each label before it
-- has a bar.
abbrev pub other_gutter : SnippetSettings → Line → ℕ → List DrawnLabel → Row
other_gutter s line left [] = blank s left ∷ []
other_gutter s line left (label ∷ labels) =
    if ends_on line label then styled_run s.width label.style
    (s.theme.characters.lbot ∷ replicate (left - 1) s.theme.characters.hbar) ∷ []
    else styled_run s.width label.style (s.theme.characters.vbar ∷ []) ∷ other_gutter s line (left - 1) labels

-- The same with spaces instead of the corner and its bars.
abbrev pub open_gutter : SnippetSettings → Line → ℕ → List DrawnLabel → Row
open_gutter s line left [] = blank s left ∷ []
open_gutter s line left (label ∷ labels) =
    if ends_on line label then blank s left ∷ []
    else styled_run s.width label.style (s.theme.characters.vbar ∷ []) ∷ open_gutter s line (left - 1) labels

abbrev pub part_run : SnippetSettings → DrawnLabel → ℕ → List ℕ → Run
part_run s label bar part = styled_run s.width label.style (bar ∷ 32 ∷ part)

-- The rows of one label text after a gutter of `columns` columns. With several lines of text, the gutter is one column
-- shorter.
abbrev pub closing_parts : SnippetSettings → Line → ℕ → List DrawnLabel → DrawnLabel → List (List ℕ) →
    List Row
closing_parts s line columns labels label [] = []
closing_parts s line columns labels label (part ∷ []) =
    (other_gutter s line columns labels ++ part_run s label s.theme.characters.hbar part ∷ []) ∷ []
closing_parts s line columns labels label (part ∷ next ∷ parts) =
    (other_gutter s line (columns - 1) labels ++ part_run s label s.theme.characters.rcross part ∷ [])
    ∷ map (λ p. open_gutter s line (columns - 1) labels ++ part_run s label s.theme.characters.vbar p ∷ [])
    (next ∷ parts)

-- the rows of several label texts
abbrev pub closing_rows : SnippetSettings → Line → ℕ → List DrawnLabel → List DrawnLabel → List Row
closing_rows s line columns labels [] = []
closing_rows s line columns labels (label ∷ ending) =
    closing_parts s line columns labels label label.parts ++ closing_rows s line columns labels ending
