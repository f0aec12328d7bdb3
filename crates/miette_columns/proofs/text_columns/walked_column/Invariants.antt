use Rattle.std.proofs.Common.{◌-◌, drop, string_bytes}
use Rattle.miette_columns.specs.steps.Checkpoints.{overlap_text}
use Rattle.miette_columns.proofs.Columning.{IsOver}
use Rattle.miette_columns.proofs.text_columns.walked_column.Given as goal

abbrev pub invariant-loop-left : goal.invariant-loop-left
invariant-loop-left l = IsOver (overlap_text l.from.overlap) l.from.widths (drop l.from.bytes l.text)
    (l.bytes - l.from.bytes) (string_bytes l.begun) l.widths l.rest l.left

abbrev pub decreases-loop-left : goal.decreases-loop-left
decreases-loop-left l = l.left
