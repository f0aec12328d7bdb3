-- Values of the code, as the definitions represent them.
use Rattle.std.specs.Prelude.{List, map, option_copied}
use Rattle.miette_labels.specs.declared.placed.PlacedLabel.{PlacedLabel}
use Rattle.miette_columns.specs.rules.Cells.{characters}
use Rattle.miette_lines.specs.views.Walking.{line_of_text}
use Rattle.miette_narrated.specs.declared.narrated_line.NarratedLine.{NarratedLine}
use Rattle.miette_narrated.specs.rules.Labels.{LabelRange, SnippetLine}

-- a placed label with its text
abbrev pub range_of : PlacedLabel → LabelRange
range_of p = record { start = p.start; after = p.after; text = option_copied p.text }

abbrev pub ranges_of : List PlacedLabel → List LabelRange
ranges_of ps = map range_of ps

-- a line of the code
abbrev pub narrated_line : NarratedLine → SnippetLine
narrated_line it = record {
  line = line_of_text it.line;
  number = it.number;
  is_last = it.is_last;
  data_end = it.data_end;
  characters = characters it.text.now;
}
