use Rattle.std.proofs.Common.{◌-◌, ◌≤◌}
use Rattle.miette_columns.specs.steps.ZeroWidthRuns.{IsZeroWidthRun}
use Rattle.miette_columns.proofs.trails.column_in.Given as goal

abbrev pub invariant-loop-trail : goal.invariant-loop-trail
invariant-loop-trail l = record {
  trail : IsZeroWidthRun l.text l.trail;
  before : l.trail.bytes ≤ l.bytes;
  within : l.bytes ≤ l.trail.until;
}

abbrev pub decreases-loop-trail : goal.decreases-loop-trail
decreases-loop-trail l = l.bytes - l.trail.bytes
