use Rattle.std.proofs.Common.{◌≡◌, length, max}
use Rattle.miette_fix_rows.specs.rules.DiffRows.{largest_number}
use Rattle.miette_fix_rows.specs.laws.Frames.{past_lines}
use Rattle.miette_fix_drawing.specs.views.ShownLines.{lines_of_segment}
use Rattle.miette_fix_drawing.specs.views.DiffPositions.{diff_position_of}
use Rattle.miette_fix_drawing.proofs.segments.measure_segment.Given as goal

abbrev pub invariant-loop-line : goal.invariant-loop-line
invariant-loop-line l = record {
  behind : past_lines (diff_position_of l.at) (lines_of_segment l.left)
      ≡ past_lines (diff_position_of l.fn.at) (lines_of_segment l.fn.segment);
  most : max l.most (largest_number (diff_position_of l.at) (lines_of_segment l.left))
      ≡ max l.fn.least (largest_number (diff_position_of l.fn.at) (lines_of_segment l.fn.segment));
}

abbrev pub decreases-loop-line : goal.decreases-loop-line
decreases-loop-line l = length l.left.lines.now
