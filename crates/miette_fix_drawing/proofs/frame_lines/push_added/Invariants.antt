use Rattle.std.proofs.Common.{◌≡◌, ◌++◌, drop}
use Rattle.miette_fix_rows.specs.rules.Blocks.{bytes_of}
use Rattle.miette_fix_rows.specs.rules.DiffFrames.{added_from}
use Rattle.miette_fix_rows.specs.rules.Hunks.{removed_lines}
use Rattle.miette_fix_drawing.specs.views.ShownLines.{lines_of_segments}
use Rattle.miette_fix_drawing.proofs.frame_lines.push_added.Given as goal

abbrev pub invariant-loop-change : goal.invariant-loop-change
invariant-loop-change l =
    lines_of_segments l.list.items ++ added_from l.away (drop l.change-index l.changes)
    ≡ lines_of_segments l.fn.list.items ++ added_from (bytes_of (removed_lines l.changes)) l.changes
