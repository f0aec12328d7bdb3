use Rattle.std.proofs.Common.{ℕ, ◌≡◌, ◌++◌, List, drop, true}
use Rattle.miette_fix_rows.specs.rules.DiffFrames.{DiffPosition, after_hunk, frames_from}
use Rattle.miette_fix_rows.specs.laws.Frames.{past_lines}
use Rattle.miette_fix_drawing.specs.views.Hunks.{hunks_of}
use Rattle.miette_fix_drawing.specs.views.ShownLines.{lines_of_segments}
use Rattle.miette_fix_drawing.proofs.frame_lines.take_near.Given as goal

abbrev pub invariant-loop-i : goal.invariant-loop-i
invariant-loop-i l = record {
  lines : (after : List (List ℕ)) →
      lines_of_segments l.list.items ++ after_hunk l.context after (hunks_of (drop l.i l.hunks))
      ≡ lines_of_segments l.fn.list.items ++ after_hunk l.context after (hunks_of l.hunks);
  frames : (after : List (List ℕ)) → (at : DiffPosition) →
      frames_from l.context after true (past_lines at (lines_of_segments l.list.items)) (hunks_of (drop l.i l.hunks))
      ≡ frames_from l.context after true (past_lines at (lines_of_segments l.fn.list.items)) (hunks_of l.hunks);
}
