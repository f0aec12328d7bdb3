use Rattle.std.proofs.Common.{◌-◌, ◌≤◌, length}
use Rattle.miette_columns.specs.steps.Checkpoints.{IsCheckpoint}
use Rattle.miette_columns.proofs.checkpoints.checkpoint_before.Given as goal

abbrev pub invariant-loop-low : goal.invariant-loop-low
invariant-loop-low l = record {
  place : IsCheckpoint l.text l.found;
  before : l.found.bytes ≤ l.bytes;
  high : l.high ≤ length l.checkpoints;
}

abbrev pub decreases-loop-low : goal.decreases-loop-low
decreases-loop-low l = l.high - l.low
