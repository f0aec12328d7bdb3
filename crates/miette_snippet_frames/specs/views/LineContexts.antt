-- What a line's context represents.
use Rattle.std.specs.Prelude.{ℕ, List, [], ◌∷◌, ◌++◌, map}
use Rattle.miette_snippet_frames.specs.declared.line_context.LineContext.{LineContext}
use Rattle.miette_snippet_frames.specs.declared.gutters.GutterEnd.{GutterEnd}
use Rattle.miette_snippet_frames.specs.declared.gutters.GutterEnd.TheVariants as ends
use Rattle.miette_snippet_frames.specs.views.GutterEnds.{gutter_with}
use Rattle.miette_style.specs.rules.Rows.{Row}
use Rattle.miette_snippet_rules.specs.rules.Underlines.{Underline}
use Rattle.miette_snippet_rules.specs.rules.LabelRows.{label_text_row}
use Rattle.miette_labels.specs.rules.Labels.{DrawnLabel}
use Rattle.miette_snippet_rules.specs.views.SnippetSettings.{settings_of}
use Rattle.miette_labels.specs.views.ProgramLabels.{drawn_of}
use Rattle.miette_snippet_rules.specs.rules.Gutters.{other_gutter, part_run}
use Rattle.miette_snippet_rules.specs.rules.Frames.{other_start}
use Rattle.miette_lines.specs.views.Walking.{line_of_text}
use Rattle.miette_snippet_rules.specs.rules.SnippetSettings.{SnippetSettings}

abbrev pub settings : LineContext → SnippetSettings
settings context = settings_of context.frame.settings

-- the multi-line labels, with their texts
abbrev pub multi_labels : LineContext → List DrawnLabel
multi_labels context = map drawn_of context.multi.now

-- the gutter of the line's rows below its number row
abbrev pub gutter_below : LineContext → Row
gutter_below context = other_gutter (settings context) (line_of_text context.line)
    context.gutter (multi_labels context)

-- what comes before the underlines and label texts of one-line labels
abbrev pub before_underlines : LineContext → Row
before_underlines context = other_start (settings context) context.frame.number_width ++ gutter_below context

-- a row of the text of a one-line label
abbrev pub text_line : LineContext → List Underline → Underline → List ℕ → List ℕ → Row
text_line context earlier mark front part = before_underlines context
    ++ label_text_row (settings context) earlier mark front part

-- a row of the text of a label that ends on the line, after a gutter of `columns` columns
abbrev pub part_line : LineContext → GutterEnd → ℕ → DrawnLabel → ℕ → List ℕ → Row
part_line context end columns label bar part =
    other_start (settings context) context.frame.number_width
    ++ (gutter_with end (settings context) (line_of_text context.line) columns (multi_labels context)
    ++ part_run (settings context) label bar part ∷ [])

-- the same for a line of the text after the first
abbrev pub open_line : LineContext → ℕ → DrawnLabel → List ℕ → Row
open_line context columns label part =
    part_line context ends.Open columns label (settings context).theme.characters.vbar part
