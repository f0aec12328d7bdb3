-- Gutters, by how they continue from the label at which their bars stop.
use Rattle.std.specs.Prelude.{ℕ, ◌-◌, Bool, ◌||◌, List, [], ◌∷◌, replicate, if◌then◌else◌}
use Rattle.miette_snippet_frames.specs.declared.gutters.GutterEnd.{GutterEnd}
use Rattle.miette_snippet_frames.specs.declared.gutters.GutterEnd.TheVariants as ends
use Rattle.miette_style.specs.rules.Rows.{Row, styled_run}
use Rattle.miette_lines.specs.rules.Lines.{Line}
use Rattle.miette_labels.specs.rules.Labels.{DrawnLabel, starts_on, ends_on}
use Rattle.miette_snippet_rules.specs.rules.LabelRows.{blank}
use Rattle.miette_snippet_rules.specs.rules.Gutters.{arrow, ending_corner, number_gutter, other_gutter, open_gutter}
use Rattle.miette_snippet_rules.specs.rules.SnippetSettings.{SnippetSettings}

-- the gutter of a row
abbrev pub gutter_with : GutterEnd → SnippetSettings → Line → ℕ → List DrawnLabel → Row
gutter_with ends.Arrow s line left labels = number_gutter s line left labels
gutter_with ends.Corner s line left labels = other_gutter s line left labels
gutter_with ends.Open s line left labels = open_gutter s line left labels

-- whether the bars stop at a label
abbrev pub stops : GutterEnd → Line → DrawnLabel → Bool
stops ends.Arrow line label = starts_on line label || ends_on line label
stops ends.Corner line label = ends_on line label
stops ends.Open line label = ends_on line label

-- the gutter from that label on, with `left` columns left
abbrev pub gutter_end : GutterEnd → SnippetSettings → Line → ℕ → DrawnLabel → Row
gutter_end ends.Arrow s line left label = arrow s label (if starts_on line label then s.theme.characters.ltop
    else ending_corner s.theme.characters label.parts) left ∷ blank s 1 ∷ []
gutter_end ends.Corner s line left label =
    styled_run s.width label.style (s.theme.characters.lbot ∷ replicate (left - 1) s.theme.characters.hbar) ∷ []
gutter_end ends.Open s line left label = blank s left ∷ []
