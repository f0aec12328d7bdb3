use Rattle.std.proofs.Common.{◌≡◌, ◌+◌, ◌-◌, ◌≤◌}
use Rattle.miette_lines.specs.rules.Lines.{line_of}
use Rattle.miette_lines.proofs.scan.ends_in_block.Given as goal

abbrev pub invariant-loop-at : goal.invariant-loop-at
invariant-loop-at l = (line_of l.bytes l.from + l.ends ≡ line_of l.bytes l.at) × (l.ends ≤ l.at - l.from)
