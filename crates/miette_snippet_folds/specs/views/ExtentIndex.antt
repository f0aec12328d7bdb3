-- The extents of labels, in code.
use Rattle.std.specs.Prelude.{ℕ, ◌-◌, ◌≡◌, min, List, count_by}
use Rattle.std.specs.List.{All}
use Rattle.miette_lines.specs.rules.Lines.{is_terminated}
use Rattle.miette_protocol.specs.rules.Reading.{Contents}
use Rattle.miette_labels.specs.rules.Contexts.{lines_of_contents}
use Rattle.miette_snippet_folds.specs.declared.folds.LabelExtent.{LabelExtent as MadeExtent}
use Rattle.miette_snippet_rules.specs.rules.FoldedLabels.{LabelExtent, line_index_of}

abbrev pub extent_view : MadeExtent → LabelExtent
extent_view s = record { first = s.first; last = s.last; from = s.from; until = s.until; around = s.around }

-- the index of the line with this number among the lines that were read; after the last one, the number of terminated
-- lines
abbrev pub place_in : Contents → ℕ → ℕ
place_in contents line = min (line - contents.line) contents.line_count

-- the line numbers of an extent are correct for these contents
pub record IsNumbered (contents : Contents) (label : MadeExtent) : Type 0 where
  pub first : line_index_of (lines_of_contents contents) label.first ≡ place_in contents label.first_line
  pub last : line_index_of (lines_of_contents contents) label.last ≡ place_in contents label.last_line
  pub from : line_index_of (lines_of_contents contents) label.from ≡ place_in contents label.from_line

-- all of them are, and the read counted its lines
pub record AreNumbered (contents : Contents) (labels : List MadeExtent) : Type 0 where
  pub counted : contents.line_count ≡ count_by is_terminated (lines_of_contents contents)
  pub each : All (IsNumbered contents) labels
