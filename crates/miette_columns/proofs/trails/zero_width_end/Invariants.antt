use Rattle.std.proofs.Common.{◌-◌, length}
use Rattle.miette_columns.proofs.Running.{AreSince}
use Rattle.miette_columns.proofs.trails.zero_width_end.Given as goal

abbrev pub invariant-loop-bytes : goal.invariant-loop-bytes
invariant-loop-bytes l = AreSince l.text l.from l.bytes

abbrev pub decreases-loop-bytes : goal.decreases-loop-bytes
decreases-loop-bytes l = length l.text - l.bytes
