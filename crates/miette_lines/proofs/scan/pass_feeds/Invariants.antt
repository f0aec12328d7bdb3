use Rattle.std.proofs.Common.{◌≡◌, ◌+◌, ◌-◌, ◌≤◌}
use Rattle.miette_lines.specs.rules.Lines.{line_of}
use Rattle.miette_lines.proofs.scan.pass_feeds.Given as goal

abbrev pub invariant-loop-at : goal.invariant-loop-at
invariant-loop-at l = (line_of l.bytes l.from + l.ends ≡ line_of l.bytes l.at) × (l.from ≤ l.at) × (l.at ≤ l.to)
    × (l.ends ≤ l.at - l.from)

abbrev pub decreases-loop-at : goal.decreases-loop-at
decreases-loop-at l = l.to - l.at
