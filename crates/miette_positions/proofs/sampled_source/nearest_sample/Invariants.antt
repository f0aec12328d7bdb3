use Rattle.std.proofs.Common.{◌≡◌, ◌≤◌, ◌-◌, length, true}
use Rattle.miette_positions.specs.steps.Samples.{IsSample, is_reached}
use Rattle.miette_positions.proofs.sampled_source.nearest_sample.Given as goal

abbrev pub invariant-loop-low : goal.invariant-loop-low
invariant-loop-low l = record {
  order : l.low ≤ l.high;
  within : l.high ≤ length l.samples;
  mark : IsSample l.fn.encoding l.fn.source l.found;
  reached : is_reached l.target l.found ≡ true;
}

abbrev pub decreases-loop-low : goal.decreases-loop-low
decreases-loop-low l = l.high - l.low
