use Rattle.std.proofs.Common.{◌≡◌, length}
use Rattle.std.specs.List.{All}
use Rattle.miette_snippet_rules.specs.rules.PrintedCells.{cells_width}
use Rattle.miette_snippet_rules.specs.steps.ColumnStops.{IsStop}
use Rattle.miette_snippet_rules.specs.views.LineScans.{HasScanned}
use Rattle.miette_snippet_rules.proofs.line_underlines.stops_of.Given as goal

abbrev pub invariant-loop-stops : goal.invariant-loop-stops
invariant-loop-stops l = record {
  stops : All (IsStop l.fn.walk) l.stops.items;
  passed : HasScanned l.fn.walk l.passage;
  width : cells_width l.passage.width l.passage.walk ≡ cells_width l.fn.column l.fn.walk;
}

abbrev pub decreases-loop-stops : goal.decreases-loop-stops
decreases-loop-stops l = length l.passage.walk
