-- What a line's own rows show.
use Rattle.std.specs.Prelude.{List, ◌++◌, map, false}
use Rattle.miette_snippet_frames.specs.declared.line_context.LineContext.{LineContext}
use Rattle.miette_style.specs.rules.Rows.{Row}
use Rattle.miette_labels.specs.rules.Labels.{DrawnLabel}
use Rattle.miette_labels.specs.views.ProgramLabels.{drawn_of}
use Rattle.miette_columns.specs.rules.Widths.{width_of}
use Rattle.miette_snippet_rules.specs.rules.Gutters.{number_gutter}
use Rattle.miette_snippet_rules.specs.rules.Frames.{number_start}
use Rattle.miette_columns.specs.rules.Cells.{Cell, cells_from, characters}
use Rattle.miette_lines.specs.views.Walking.{line_of_text}
use Rattle.miette_snippet_frames.specs.views.LineContexts.{settings, multi_labels}

-- the cells of the line's text
abbrev pub shown_cells : LineContext → List Cell
shown_cells context =
    cells_from width_of context.frame.settings.layout.now.tab_width false context.line.start 0
    (characters context.text.now)

-- the one-line labels, with their texts
abbrev pub labels_alone : LineContext → List DrawnLabel
labels_alone context = map drawn_of context.one.now

-- the number row of a line, with its shown text
abbrev pub number_row : LineContext → Row → Row
number_row context text =
    number_start (settings context) context.frame.number_width context.number
    ++ number_gutter (settings context) (line_of_text context.line) context.gutter
    (multi_labels context) ++ text
