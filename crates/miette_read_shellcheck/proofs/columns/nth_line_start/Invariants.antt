use Rattle.std.proofs.Common.{◌≡◌, ◌≤◌, drop, length}
use Rattle.miette_read_shellcheck.specs.rules.Columns.{nth_line_start}
use Rattle.miette_read_shellcheck.proofs.columns.nth_line_start.Given as goal

abbrev pub decreases-loop-left : goal.decreases-loop-left
decreases-loop-left l = l.left

-- where the line begins that stands `left` lines after this one, the one begins that is asked for
abbrev pub invariant-loop-left : goal.invariant-loop-left
invariant-loop-left l = record {
  within : l.at ≤ length l.bytes;
  same : nth_line_start 0 l.bytes l.fn.lines ≡ nth_line_start l.at (drop l.at l.bytes) l.left;
}
