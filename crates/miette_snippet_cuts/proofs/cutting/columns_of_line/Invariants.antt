use Rattle.std.proofs.Common.{◌≡◌, length}
use Rattle.miette_snippet_rules.specs.rules.PrintedCells.{cells_width}
use Rattle.miette_snippet_cuts.proofs.cutting.columns_of_line.Given as goal

abbrev pub invariant-loop-passage : goal.invariant-loop-passage
invariant-loop-passage l = cells_width l.passage.width l.passage.walk ≡ cells_width 0 l.fn.walk

abbrev pub decreases-loop-passage : goal.decreases-loop-passage
decreases-loop-passage l = length l.passage.walk
