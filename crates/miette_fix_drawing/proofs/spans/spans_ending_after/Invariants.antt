use Rattle.std.proofs.Common.{◌≡◌, ◌≤◌, ◌-◌, drop, length}
use Rattle.std.specs.List.{list_any}
use Rattle.miette_columns.specs.rules.Cells.{Cell}
use Rattle.miette_fix_rows.specs.rules.DiffTexts.{holds_byte}
use Rattle.miette_fix_drawing.proofs.spans.spans_ending_after.Given as goal

abbrev pub invariant-loop-i : goal.invariant-loop-i
invariant-loop-i l = (cell : Cell) → l.offset ≤ cell.start
    → list_any (holds_byte cell) (drop l.i l.spans) ≡ list_any (holds_byte cell) l.spans

abbrev pub decreases-loop-i : goal.decreases-loop-i
decreases-loop-i l = length l.spans - l.i
