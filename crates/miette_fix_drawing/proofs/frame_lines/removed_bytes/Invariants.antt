use Rattle.std.proofs.Common.{◌≡◌, ◌+◌, drop}
use Rattle.miette_fix_rows.specs.rules.Blocks.{bytes_of}
use Rattle.miette_fix_rows.specs.rules.Hunks.{removed_lines}
use Rattle.miette_fix_drawing.proofs.frame_lines.removed_bytes.Given as goal

abbrev pub invariant-loop-change : goal.invariant-loop-change
invariant-loop-change l =
    l.size + bytes_of (removed_lines (drop l.change-index l.changes)) ≡ bytes_of (removed_lines l.changes)
