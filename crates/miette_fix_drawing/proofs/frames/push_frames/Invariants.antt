use Rattle.std.proofs.Common.{◌≡◌, ◌≤◌, ◌-◌, length, drop, false}
use Rattle.miette_style.specs.views.Printouts.{◌⊕◌}
use Rattle.miette_style.specs.views.Tokens.{rows_tokens}
use Rattle.miette_fix_rows.specs.rules.Blocks.{line_texts}
use Rattle.miette_fix_rows.specs.rules.DiffFrames.{frames_from}
use Rattle.miette_fix_drawing.specs.steps.Framing.{drawn_frames}
use Rattle.miette_fix_drawing.specs.steps.Places.{IsCursor}
use Rattle.miette_fix_drawing.specs.views.Frames.{first_position}
use Rattle.miette_fix_drawing.specs.views.Hunks.{hunks_of}
use Rattle.miette_fix_drawing.specs.views.DiffPositions.{diff_position_of}
use Rattle.miette_fix_drawing.proofs.frames.push_frames.Given as goal

abbrev pub invariant-loop-done : goal.invariant-loop-done
invariant-loop-done g l = record {
  rows : l.page ⊕ rows_tokens (drawn_frames l.drawing
      (frames_from l.drawing.settings.layout.now.context_lines (line_texts l.kept_after) false
      (diff_position_of l.progress.at) (hunks_of (drop l.done l.hunks))))
      ≡ l.fn.page ⊕ rows_tokens (drawn_frames l.drawing
      (frames_from l.drawing.settings.layout.now.context_lines (line_texts l.kept_after) false first_position
      (hunks_of l.hunks)));
  within : l.done ≤ length l.hunks;
  cursor : IsCursor g.S.SourceCode.source l.drawing.source.now l.progress.cursor;
}

abbrev pub decreases-loop-done : goal.decreases-loop-done
decreases-loop-done g l = length l.hunks - l.done
