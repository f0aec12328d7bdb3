use Rattle.std.proofs.Common.{◌≤◌, ◌-◌, length}
use Rattle.std.specs.List.{All}
use Rattle.miette_positions.specs.steps.Samples.{IsSample}
use Rattle.miette_positions.proofs.index.sample_stops.Given as goal

abbrev pub invariant-loop-next : goal.invariant-loop-next
invariant-loop-next l = record {
  here : IsSample l.encoding l.source l.here;
  samples : All (IsSample l.encoding l.source) l.samples.items;
  last : l.last ≤ l.here.offset;
}

abbrev pub decreases-loop-next : goal.decreases-loop-next
decreases-loop-next l = length l.source - l.here.offset
