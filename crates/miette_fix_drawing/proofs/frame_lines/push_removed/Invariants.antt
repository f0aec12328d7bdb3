use Rattle.std.proofs.Common.{◌≡◌, ◌++◌, drop}
use Rattle.miette_fix_rows.specs.rules.DiffFrames.{removed_from}
use Rattle.miette_fix_drawing.specs.views.ShownLines.{lines_of_segments}
use Rattle.miette_fix_drawing.proofs.frame_lines.push_removed.Given as goal

abbrev pub invariant-loop-change : goal.invariant-loop-change
invariant-loop-change l =
    lines_of_segments l.list.items ++ removed_from l.away (drop l.change-index l.changes)
    ≡ lines_of_segments l.fn.list.items ++ removed_from 0 l.changes
