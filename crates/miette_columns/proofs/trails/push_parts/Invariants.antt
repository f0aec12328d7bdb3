use Rattle.std.proofs.Common.{◌-◌}
use Rattle.std.specs.List.{All}
use Rattle.miette_columns.specs.steps.ZeroWidthRuns.{IsZeroWidthRun}
use Rattle.miette_columns.proofs.trails.push_parts.Given as goal

abbrev pub invariant-loop-trail : goal.invariant-loop-trail
invariant-loop-trail l = IsZeroWidthRun l.text l.trail × All (IsZeroWidthRun l.text) l.trails.items

abbrev pub decreases-loop-trail : goal.decreases-loop-trail
decreases-loop-trail l = l.trail.until - l.trail.bytes
