use Rattle.std.proofs.Common.{◌-◌, length}
use Rattle.miette_snippet_cuts.specs.steps.Nearness.{ArePassed}
use Rattle.miette_snippet_cuts.proofs.nearness.passed_at.Given as goal

abbrev pub invariant-loop-at : goal.invariant-loop-at
invariant-loop-at l = ArePassed l.reach l.ends l.at l.column

abbrev pub decreases-loop-at : goal.decreases-loop-at
decreases-loop-at l = length l.ends - l.at
