-- Positions in a diff, in code.
use Rattle.miette_fix_rows.specs.rules.DiffFrames.{DiffPosition}
use Rattle.miette_fix_drawing.specs.declared.diff_position.DiffPosition.{DiffPosition as MadeDiffPosition}

abbrev pub diff_position_of : MadeDiffPosition → DiffPosition
diff_position_of at = record {
  old_line = at.old_line;
  new_line = at.new_line;
  old_offset = at.old_offset;
  new_offset = at.new_offset;
}
