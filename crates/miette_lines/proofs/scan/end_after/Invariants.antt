use Rattle.std.proofs.Common.{◌≡◌, ◌+◌, ◌-◌, ◌≤◌, length}
use Rattle.miette_lines.specs.rules.Lines.{line_of}
use Rattle.miette_lines.proofs.scan.end_after.Given as goal

abbrev pub invariant-loop-at : goal.invariant-loop-at
invariant-loop-at l = (l.line ≡ line_of l.bytes l.from) × (l.line + l.left ≡ line_of l.bytes l.offset + l.lines)
    × (l.line ≤ l.from) × (l.from ≤ length l.bytes)

abbrev pub decreases-loop-at : goal.decreases-loop-at
decreases-loop-at l = length l.bytes - l.from
