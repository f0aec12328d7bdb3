use Rattle.std.proofs.Common.{◌≡◌, length}
use Rattle.miette_style.specs.views.Printouts.{◌⊕◌}
use Rattle.miette_style.specs.views.Tokens.{rows_tokens}
use Rattle.miette_fix_rows.specs.rules.DiffRows.{rows_of_diff_lines}
use Rattle.miette_fix_rows.specs.laws.Frames.{past_lines}
use Rattle.miette_fix_drawing.specs.views.Contexts.{context_with}
use Rattle.miette_fix_drawing.specs.views.ShownLines.{lines_of_segment}
use Rattle.miette_fix_drawing.specs.views.DiffPositions.{diff_position_of}
use Rattle.miette_fix_drawing.proofs.segments.push_segment.Given as goal

abbrev pub invariant-loop-line : goal.invariant-loop-line
invariant-loop-line g l = record {
  rows : l.page ⊕ rows_tokens (rows_of_diff_lines (context_with l.drawing) (diff_position_of l.at)
      (lines_of_segment l.left))
      ≡ l.fn.page ⊕ rows_tokens (rows_of_diff_lines (context_with l.drawing) (diff_position_of l.fn.at)
      (lines_of_segment l.fn.segment));
  behind : past_lines (diff_position_of l.at) (lines_of_segment l.left)
      ≡ past_lines (diff_position_of l.fn.at) (lines_of_segment l.fn.segment);
}

abbrev pub decreases-loop-line : goal.decreases-loop-line
decreases-loop-line g l = length l.left.lines.now
