-- Labels among the lines of a snippet, in code.
use Rattle.std.specs.Prelude.{ℕ, ◌+◌, ◌-◌, ◌≡◌, List, map, Bool}
use Rattle.miette_lines.specs.rules.Lines.{Line, lines_from, line_start}
use Rattle.miette_snippet_folds.specs.declared.folds.Fold.{Fold}
use Rattle.miette_snippet_folds.specs.declared.folds.LineStart.{LineStart}
use Rattle.miette_snippet_folds.specs.declared.folds.LabelExtent.{LabelExtent as MadeExtent}
use Rattle.miette_snippet_folds.specs.views.ExtentIndex.{extent_view}
use Rattle.miette_snippet_rules.specs.rules.FoldedLabels.{line_index_of, is_around}

-- the start of the line with this index
abbrev pub start_in : ℕ → List ℕ → ℕ → LineStart
start_in start bytes place = record { offset = start + line_start bytes place; place = place }

-- a label among the lines of some bytes
abbrev pub fold_in : ℕ → List ℕ → MadeExtent → Fold
fold_in start bytes label = record {
  label = label;
  first = line_index_of (lines_from start bytes) label.first;
  last = line_index_of (lines_from start bytes) label.last;
  begun = start_in start bytes (line_index_of (lines_from start bytes) label.from);
  resumed = start_in start bytes (line_index_of (lines_from start bytes) label.last - label.around);
}

-- labels among the lines of some bytes
pub record AreFoldsIn (start : ℕ) (bytes : List ℕ) (folds : List Fold) : Type 0 where
  pub labels : List MadeExtent
  pub are : folds ≡ map (fold_in start bytes) labels

-- whether a line has a byte of the label's context
abbrev pub is_around_fold : Line → Fold → Bool
is_around_fold line fold = is_around line (extent_view fold.label)
