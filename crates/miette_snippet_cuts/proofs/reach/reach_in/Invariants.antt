use Rattle.std.proofs.Common.{◌-◌}
use Rattle.miette_snippet_cuts.proofs.Reaching.{IsBetween, leaves_room}
use Rattle.miette_snippet_cuts.proofs.reach.reach_in.Given as goal

abbrev pub invariant-loop-low : goal.invariant-loop-low
invariant-loop-low l = IsBetween (leaves_room l.limit l.dots l.ends l.walk) l.limit l.low l.high

abbrev pub decreases-loop-low : goal.decreases-loop-low
decreases-loop-low l = l.high - l.low
