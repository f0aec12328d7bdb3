use Rattle.std.proofs.Common.{◌≡◌, ℕ, ◌-◌, ◌<◌, ◌≤◌, length, slice_index}
use Rattle.miette_lines.specs.rules.Lines.{line_of, line_end}
use Rattle.miette_lines.proofs.line_ends.LineEnds.new.Given as goal

abbrev pub invariant-loop-at : goal.invariant-loop-at
invariant-loop-at l = record {
  all : length l.ends.items ≡ line_of l.bytes l.from;
  each : (k : ℕ) → k < length l.ends.items → slice_index l.ends.items k ≡ line_end l.bytes k;
  within : l.from ≤ length l.bytes;
}

abbrev pub decreases-loop-at : goal.decreases-loop-at
decreases-loop-at l = length l.bytes - l.from
