use Rattle.std.proofs.Common.{◌≡◌, ◌≤◌, ◌-◌, ◌++◌, drop, length}
use Rattle.std.specs.List.{AllByRecursion}
use Rattle.miette_fix_rows.specs.rules.Hunks.{diff_from}
use Rattle.miette_fix_drawing.specs.steps.Places.{HunkIsIn}
use Rattle.miette_fix_drawing.specs.steps.Rising.{AreRising}
use Rattle.miette_fix_drawing.specs.views.Hunks.{hunks_of}
use Rattle.miette_fix_drawing.proofs.hunks.hunks_of.Given as goal

abbrev pub invariant-loop-low : goal.invariant-loop-low
invariant-loop-low l = record {
  within : l.low ≤ length l.changes;
  rising : AreRising (length l.source) l.at (drop l.low l.changes);
  hunks : hunks_of l.list.items ++ (diff_from l.source l.at (drop l.low l.changes)).hunks
      ≡ (diff_from l.source 0 l.changes).hunks;
  stand : AllByRecursion (HunkIsIn l.source) l.list.items;
  behind : (diff_from l.source l.at (drop l.low l.changes)).after_hunks ≡ (diff_from l.source 0 l.changes).after_hunks;
}

abbrev pub decreases-loop-low : goal.decreases-loop-low
decreases-loop-low l = length l.changes - l.low
