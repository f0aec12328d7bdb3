use Rattle.std.proofs.Common.{◌≡◌, ◌-◌, length, leb}
use Rattle.miette_positions.specs.rules.Regions.{first_stop}
use Rattle.miette_positions.specs.rules.Stops.{stops_from}
use Rattle.miette_positions.specs.steps.Samples.{IsWithin}
use Rattle.miette_positions.proofs.sampled_source.first_from.Given as goal

-- a walk from here finds what one from the beginning does
abbrev pub invariant-loop-here : goal.invariant-loop-here
invariant-loop-here l = record {
  within : IsWithin l.source l.here;
  same : first_stop (λ s. leb l.at s.offset) l.here (stops_from l.encoding l.source l.here)
      ≡ first_stop (λ s. leb l.at s.offset) l.fn.from (stops_from l.encoding l.source l.fn.from);
}

abbrev pub decreases-loop-here : goal.decreases-loop-here
decreases-loop-here l = length l.source - l.here.offset
