use Rattle.std.proofs.Common.{◌≡◌, ◌≤◌, length}
use Rattle.miette_read.specs.views.Values.{texts}
use Rattle.miette_read_sarif.specs.rules.Newlines.{nth_line_start}
use Rattle.miette_read_sarif.proofs.newlines.nth_line_start.Given as goal

abbrev pub decreases-loop-left : goal.decreases-loop-left
decreases-loop-left l = l.left

-- where the line begins that stands `left` lines after this one, the one begins that is asked for
abbrev pub invariant-loop-left : goal.invariant-loop-left
invariant-loop-left l = record {
  within : l.at ≤ length l.bytes;
  same : nth_line_start (texts l.ends.newlines.items) l.bytes 0 l.fn.lines
      ≡ nth_line_start (texts l.ends.newlines.items) l.bytes l.at l.left;
}
