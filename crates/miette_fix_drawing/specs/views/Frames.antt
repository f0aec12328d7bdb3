-- Frames in code.
use Rattle.miette_fix_rows.specs.rules.DiffFrames.{DiffFrame, DiffPosition}
use Rattle.miette_fix_drawing.specs.declared.frames.FrameLines.{FrameLines}
use Rattle.miette_fix_drawing.specs.views.ShownLines.{lines_of_segments}
use Rattle.miette_fix_drawing.specs.views.DiffPositions.{diff_position_of}

abbrev pub frame_of : FrameLines → DiffFrame
frame_of it = record { at = diff_position_of it.at; place = it.place; lines = lines_of_segments it.lines.items }

-- the position before all lines
abbrev pub first_position : DiffPosition
first_position = record { old_line = 0; new_line = 0; old_offset = 0; new_offset = 0 }
