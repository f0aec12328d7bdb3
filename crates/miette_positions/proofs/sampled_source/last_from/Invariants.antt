use Rattle.std.proofs.Common.{◌≡◌, ◌-◌, length}
use Rattle.miette_positions.specs.rules.Regions.{last_stop}
use Rattle.miette_positions.specs.rules.Stops.{stops_from}
use Rattle.miette_positions.specs.steps.Samples.{IsWithin, is_reached}
use Rattle.miette_positions.proofs.sampled_source.last_from.Given as goal

-- a walk from here finds what one from the beginning does
abbrev pub invariant-loop-next : goal.invariant-loop-next
invariant-loop-next l = record {
  within : IsWithin l.source l.here;
  same : last_stop (is_reached l.target) l.here (stops_from l.encoding l.source l.here)
      ≡ last_stop (is_reached l.target) l.fn.from (stops_from l.encoding l.source l.fn.from);
}

abbrev pub decreases-loop-next : goal.decreases-loop-next
decreases-loop-next l = length l.source - l.here.offset
