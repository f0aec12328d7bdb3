use Rattle.std.proofs.Common.{◌-◌, length, string_bytes}
use Rattle.std.specs.List.{All}
use Rattle.miette_columns.specs.steps.ZeroWidthRuns.{IsZeroWidthRun}
use Rattle.miette_columns.proofs.PlaceLaws.{IsSince}
use Rattle.miette_columns.proofs.trails.push_trails.Given as goal

abbrev pub invariant-loop-bytes : goal.invariant-loop-bytes
invariant-loop-bytes l = record {
  since : IsSince l.text l.from (string_bytes l.over) l.widths l.bytes;
  trails : All (IsZeroWidthRun l.text) l.trails.items;
}

abbrev pub decreases-loop-bytes : goal.decreases-loop-bytes
decreases-loop-bytes l = length l.text - l.bytes
