use Rattle.std.proofs.Common.{◌-◌, length}
use Rattle.std.specs.List.{All}
use Rattle.miette_columns.specs.steps.Checkpoints.{IsCheckpoint}
use Rattle.miette_columns.proofs.checkpoints.checkpoints.Given as goal

abbrev pub invariant-loop-checkpoints : goal.invariant-loop-checkpoints
invariant-loop-checkpoints l = IsCheckpoint l.text l.from × All (IsCheckpoint l.text) l.checkpoints.items

abbrev pub decreases-loop-checkpoints : goal.decreases-loop-checkpoints
decreases-loop-checkpoints l = length l.text - l.from.bytes
