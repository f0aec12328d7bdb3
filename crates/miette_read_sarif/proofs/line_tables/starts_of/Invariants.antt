use Rattle.std.proofs.Common.{◌≤◌, ◌-◌, length}
use Rattle.miette_read.specs.views.Values.{texts}
use Rattle.miette_read_sarif.proofs.StartSteps.{IsWalked}
use Rattle.miette_read_sarif.proofs.line_tables.starts_of.Given as goal

abbrev pub decreases-loop-size : goal.decreases-loop-size
decreases-loop-size l = length l.bytes - l.at

-- with those of the lines that are left, those that are passed are all
abbrev pub invariant-loop-size : goal.invariant-loop-size
invariant-loop-size l = record {
  within : l.at ≤ length l.bytes;
  walked : IsWalked (texts l.ends.newlines.items) l.bytes l.at l.starts.items;
}
