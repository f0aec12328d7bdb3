use Rattle.std.proofs.Common.{◌≡◌, ◌+◌, ◌≤◌}
use Rattle.miette_lines.specs.rules.Lines.{line_of}
use Rattle.miette_lines.proofs.scan.start_before.Given as goal

abbrev pub invariant-loop-at : goal.invariant-loop-at
invariant-loop-at l = (line_of l.bytes l.end + l.passed ≡ line_of l.bytes l.offset) × (l.passed ≤ l.lines)
    × (l.end ≤ l.offset)

abbrev pub decreases-loop-at : goal.decreases-loop-at
decreases-loop-at l = l.end
