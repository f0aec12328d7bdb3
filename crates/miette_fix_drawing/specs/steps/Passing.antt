-- Consecutive segments.
use Rattle.std.specs.Prelude.{ℕ, List, [], ◌∷◌, ◌++◌, max}
use Rattle.miette_style.specs.rules.Rows.{Row}
use Rattle.miette_fix_rows.specs.laws.Frames.{past_lines}
use Rattle.miette_fix_rows.specs.rules.DiffFrames.{DiffPosition}
use Rattle.miette_fix_rows.specs.rules.DiffRows.{DiffContext, largest_number, rows_of_diff_lines}
use Rattle.miette_fix_drawing.specs.declared.segments.Segment.{Segment}
use Rattle.miette_fix_drawing.specs.views.ShownLines.{lines_of_segment}

abbrev pub past_segments : DiffPosition → List Segment → DiffPosition
past_segments at [] = at
past_segments at (s ∷ ss) = past_segments (past_lines at (lines_of_segment s)) ss

abbrev pub largest_segments : DiffPosition → List Segment → ℕ
largest_segments at [] = 0
largest_segments at (s ∷ ss) =
    max (largest_number at (lines_of_segment s)) (largest_segments (past_lines at (lines_of_segment s)) ss)

abbrev pub rows_of_segments : DiffContext → DiffPosition → List Segment → List Row
rows_of_segments c at [] = []
rows_of_segments c at (s ∷ ss) =
    rows_of_diff_lines c at (lines_of_segment s) ++ rows_of_segments c (past_lines at (lines_of_segment s)) ss
