-- Which lines are visited when a snippet is measured, and which are skipped.
use Rattle.std.specs.Prelude.{ℕ, Bool, not, ◌&&◌, ◌==◌, nat_lt, true, List, length}
use Rattle.miette_lines.specs.rules.Lines.{Line}
use Rattle.miette_labels.specs.declared.placed.PlacedLabel.{PlacedLabel}
use Rattle.miette_labels.specs.views.Sweeping.{start_at}
use Rattle.miette_snippet_folds.specs.declared.folds.Fold.{Fold}
use Rattle.miette_snippet_folds.specs.declared.folds.LineStart.{LineStart}
use Rattle.miette_snippet_folds.specs.views.Gaps.{next_line_start}

-- whether one of the labels from an index on begins before an offset
abbrev pub begins_before : List PlacedLabel → ℕ → ℕ → Bool
begins_before labels first offset = nat_lt first (length labels) && nat_lt (start_at labels first) offset

-- whether labels continue after an offset
abbrev pub some_go_on : List PlacedLabel → Bool
some_go_on running = not (length running == 0)

-- The start of the next line to visit: the one after the gap, if it is inside a label and no label begins in the gap.
abbrev pub next_counted : List PlacedLabel → ℕ → Bool → List Fold → ℕ → Line → LineStart
next_counted labels first inside folds place line = next_line_start folds place line
    (inside && not (begins_before labels first (next_line_start folds place line true).offset))
