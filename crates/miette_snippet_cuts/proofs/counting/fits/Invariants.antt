use Rattle.std.proofs.Common.{◌≡◌, length}
use Rattle.miette_snippet_cuts.specs.steps.Counting.{IsCounted, whole_count}
use Rattle.miette_snippet_cuts.specs.steps.Nearness.{near_by}
use Rattle.miette_snippet_cuts.specs.steps.Windows.{StandTogether}
use Rattle.miette_snippet_cuts.proofs.counting.fits.Given as goal

abbrev pub invariant-loop-cell : goal.invariant-loop-cell
invariant-loop-cell l = record {
  nearness : l.nearness ≡ record { room = l.room; ends = l.ends };
  stands : StandTogether l.walk;
  counted : IsCounted l.room.limit l.count (whole_count l.room.dots (near_by l.room l.ends) l.count l.walk)
      (whole_count l.room.dots (near_by l.room l.ends) (record { shown = 0; passed = l.window.column }) l.window.walk);
}

abbrev pub decreases-loop-cell : goal.decreases-loop-cell
decreases-loop-cell l = length l.walk
